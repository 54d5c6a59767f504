-- What rules give, in cells.
use Rattle.std.specs.Prelude.{◌≡◌, ℕ, true, List, [], ◌∷◌, Option, Some, None, Result, Ok, Err}
use Rattle.math_terms.specs.declared.term.Term.{Term}
use Rattle.term_cells.specs.declared.cell.Cell.{Cell}
use Rattle.term_cells.specs.Placed.{AllStand}
use Rattle.term_cells.specs.Standing.{stands}
use Rattle.str_theory.specs.Rules.{Given}
use Rattle.cell_rules.specs.declared.rewritten.Conditions.{Conditions}
use Rattle.cell_rules.specs.declared.rewritten.Conditions.TheVariants as conditions
use Rattle.cell_rules.specs.declared.rewritten.Full.{Full}
use Rattle.cell_rules.specs.declared.rewritten.Rewritten.{Rewritten}

abbrev pub places : Conditions → List ℕ
places conditions.None = []
places (conditions.One p) = p ∷ []
places (conditions.Two p q) = p ∷ q ∷ []
places (conditions.Three p q r) = p ∷ q ∷ r ∷ []

-- the term and the side conditions stand at these places
abbrev pub Stands : List Cell → Term × List Term → Rewritten → Type 0
Stands cells g r = (stands cells g.0 r.place ≡ true) × AllStand cells g.1 (places r.conditions)

-- The answer is what a rule gives.
abbrev pub GivenStands : List Cell → Given → Result (Option Rewritten) Full → Type 0
GivenStands cells g (Ok None) = g ≡ None
GivenStands cells g (Ok (Some r)) = (x : Term × List Term) × (g ≡ Some x) × Stands cells x r
GivenStands cells g (Err e) = Unit {0}
