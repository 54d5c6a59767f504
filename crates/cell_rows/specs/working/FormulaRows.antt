-- The two rows of formulas.
use Rattle.std.specs.Prelude.{List, Option}
use Rattle.math_terms.specs.declared.descriptor.Sort.{Sort}
use Rattle.math_terms.specs.declared.term.Term.{Term}
use Rattle.cell_rows.specs.declared.formula.Which.{Which}
use Rattle.cell_rows.specs.declared.formula.Which.TheVariants.{First, Second}
use Rattle.cell_rows.specs.RowsStand.{Row, first_row, second_row}

abbrev pub formula_row : Which → List Sort → Term → Option Row
formula_row First vars f = first_row vars f
formula_row Second vars f = second_row vars f
