-- Terms that stand at places beside them.
use Rattle.std.specs.Prelude.{◌≡◌, ℕ, true, List, [], ◌∷◌}
use Rattle.math_terms.specs.declared.term.Term.{Term}
use Rattle.term_cells.specs.declared.cell.Cell.{Cell}
use Rattle.term_cells.specs.Standing.{stands}

-- the terms stand at these places, as many as there are places
abbrev pub AllStand : List Cell → List Term → List ℕ → Type 0
AllStand cells [] [] = Unit {0}
AllStand cells [] (p ∷ ps) = ⊥
AllStand cells (t ∷ ts) [] = ⊥
AllStand cells (t ∷ ts) (p ∷ ps) = (stands cells t p ≡ true) × AllStand cells ts ps
