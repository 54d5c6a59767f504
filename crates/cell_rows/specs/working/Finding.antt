-- Rows by their names.
use Rattle.std.specs.Prelude.{ℕ, zero, suc, List, length, Option, Some, None, Result, IfOk, slice_get, option_and_then}
use Rattle.math_terms.specs.declared.name.RowName.{RowName}
use Rattle.math_terms.specs.declared.descriptor.Sort.{Sort}
use Rattle.math_terms.specs.declared.term.Term.{Term}
use Rattle.num_theory.specs.Naming.{find_row, rows_at_hand}
use Rattle.num_theory.specs.Table.{Sum}
use Rattle.term_cells.specs.declared.cell.Cell.{Cell}
use Rattle.cell_rows.specs.declared.difference.CellRow.{CellRow}
use Rattle.cell_rows.specs.declared.difference.Short.{Short}
use Rattle.cell_rows.specs.Forms.{Mark}
use Rattle.cell_rows.specs.RowsStand.{Row, RowStands, fact_row}

-- an item by its number, counted from 1
abbrev pub numbered : {A : Type 0} → List A → ℕ → Option A
numbered xs zero = None
numbered xs (suc k) = slice_get xs k

-- a row without its name
abbrev pub unnamed : Option Sum → Option Row
unnamed None = None
unnamed (Some s) = Some (s.products, s.constant)

-- the row of a fact, where there is one
abbrev pub row_of_some : Option Term → Option Row
row_of_some f = option_and_then fact_row f

-- the row of a sequent with this name
abbrev pub row_by_name : List Sort → List Term → Term → RowName → Option Row
row_by_name vars hyps goal name = unnamed (find_row (length hyps) name (rows_at_hand vars hyps goal).sums)

-- an answer is this row
abbrev pub RowFound : List Cell → Option Row → Result (Option CellRow) Short → List Mark → Type 0
RowFound cells row r marks = IfOk r (λ raw. RowStands cells row raw marks)
