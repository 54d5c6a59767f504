use Rattle.std.proofs.Common.{◌≡◌, ◌+◌, Some, List, length, map, take}
use Rattle.math_terms.specs.declared.term.Term.{Term}
use Rattle.num_theory.specs.Naming.{find_rows}
use Rattle.num_theory.specs.Table.{Sum, row_of}
use Rattle.term_cells.specs.Placed.{AllStand}
use Rattle.cell_rows.specs.working.RowsIn.{RowsIn}
use Rattle.cell_rows.specs.Sequents.{SameRoom, TableStands, table_of}
use Rattle.cell_rows.proofs.sequent.CellTable.fill_rows.Given as goal

abbrev pub invariant-loop-k : goal.invariant-loop-k
invariant-loop-k l = record {
  room : SameRoom l.initial.sheet l.sheet;
  filled : (hs : List Term) (g : Term) (cols : List Term) (named : List Sum) → TableStands l.self hs g → AllStand l.self.sequent.cells.now.0 cols l.columns → find_rows (length hs) (table_of l.self.sequent hs g).sums l.names ≡ Some named →
      RowsIn (length cols + 1) l.k (map (row_of cols) (take l.k named)) l.places;
}
