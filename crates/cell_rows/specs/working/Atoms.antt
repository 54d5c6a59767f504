-- Atoms by the places where they stand.
use Rattle.std.specs.Prelude.{ℕ, ◌<◌, List, [], ◌∷◌, length, take, Option, Some, None, IfSome}
use Rattle.math_terms.specs.declared.term.Term.{Term}
use Rattle.num_theory.specs.Table.{with_atoms}
use Rattle.term_cells.specs.declared.cell.Cell.{Cell}
use Rattle.term_cells.specs.Placed.{AllStand}
use Rattle.cell_rows.specs.RowsStand.{Row, fact_row}

-- the atoms stand at the first places, or there are fewer places
abbrev pub AtomsOrShort : List Cell → List Term → Option ℕ → List ℕ → Type 0
AtomsOrShort cells ts None places = length places < length ts
AtomsOrShort cells ts (Some count) places = AllStand cells ts (take count places)

-- atoms with those of a row that there may be
abbrev pub with_row : List Term → Option Row → List Term
with_row atoms None = atoms
with_row atoms (Some row) = with_atoms atoms row.0

-- where there is an answer, the atoms stand at that many places
abbrev pub AtomsFound : List Cell → List Term → Option ℕ → List ℕ → Type 0
AtomsFound cells ts r places = IfSome r (λ count. AllStand cells ts (take count places))

-- atoms with those of the rows of facts
abbrev pub with_fact_rows : List Term → List Term → List Term
with_fact_rows atoms [] = atoms
with_fact_rows atoms (f ∷ fs) = with_fact_rows (with_row atoms (fact_row f)) fs
