-- Terms of few nodes.
use Rattle.std.specs.Prelude.{ℕ, ◌≤◌, List, [], ◌∷◌}
use Rattle.math_terms.specs.declared.term.Term.{Term}
use Rattle.math_terms.specs.Terms.{nodes}

-- no term has more nodes than so many
abbrev pub Small : ℕ → List Term → Type 0
Small most [] = Unit {0}
Small most (t ∷ ts) = (nodes t ≤ most) × Small most ts
