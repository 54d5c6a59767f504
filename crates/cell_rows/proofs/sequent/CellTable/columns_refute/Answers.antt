use Rattle.std.proofs.Common.{◌+◌, sym, subst, length, map}
use Rattle.num_theory.specs.Table.{row_of}
use Rattle.cell_rows.specs.Sequents.{table_of}
use Rattle.cell_rows.specs.working.RowsIn.{RowsIn}
use Rattle.cell_rows.proofs.Matrix.{names_counted}
use Rattle.cell_rows.proofs.Places.{atoms_counted}
use Rattle.cell_rows.proofs.sequent.CellTable.columns_refute.Goals as goal

pub returns-clause-exact : goal.returns-clause-exact
returns-clause-exact c = λ hs g cols named h k e.
    let rows = map (row_of cols) named in
    let filled = c.in-Ok.ensures.filled hs g cols named h k e in
    let narrow = subst (λ n. RowsIn (n + 1) (length named) rows c.fill_rows.new.places) (atoms_counted c.args.self.now.sequent.cells.now.0 cols c.args.columns.now k) filled in
    let counted = names_counted (length hs) (table_of c.args.self.now.sequent hs g).sums c.args.names.now named e in
    c.refutes.ensures.exact rows (subst (λ n. RowsIn (length c.args.columns.now + 1) n rows c.fill_rows.new.places) (sym counted) narrow)
