-- The fact that a rule uses, at a place.
use Rattle.std.specs.Prelude.{◌≡◌, ℕ, true, List, Option, Some, None}
use Rattle.math_terms.specs.declared.term.Term.{Term}
use Rattle.term_cells.specs.declared.cell.Cell.{Cell}
use Rattle.term_cells.specs.Standing.{stands}

-- the fact stands at the place; there is none where there is no place
abbrev pub FactStands : List Cell → Option Term → Option ℕ → Type 0
FactStands cells None None = Unit {0}
FactStands cells None (Some p) = ⊥
FactStands cells (Some f) None = ⊥
FactStands cells (Some f) (Some p) = stands cells f p ≡ true
