-- Names with their places.
use Rattle.std.specs.Prelude.{ℕ, List, map}
use Rattle.res_ast.specs.declared.heading.Heading.{Heading}

abbrev pub names_of : List (List ℕ × ℕ) → List (List ℕ)
names_of ns = map (λ n. n.0) ns

-- the names of headings, all at one place
abbrev pub placed : ℕ → List Heading → List (List ℕ × ℕ)
placed at headings = map (λ h. (h.name, at)) headings
