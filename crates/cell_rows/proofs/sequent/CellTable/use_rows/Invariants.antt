use Rattle.std.proofs.Common.{List, true, length, take}
use Rattle.math_terms.specs.declared.term.Term.{Term}
use Rattle.num_theory.specs.Naming.{find_rows}
use Rattle.cell_rows.specs.working.Columns.{UsedIs}
use Rattle.cell_rows.specs.Sequents.{SameRoom, TableStands, table_of}
use Rattle.cell_rows.proofs.sequent.CellTable.use_rows.Given as goal

abbrev pub invariant-loop-name : goal.invariant-loop-name
invariant-loop-name l = record {
  room : SameRoom l.initial.sheet l.sheet;
  used : (hs : List Term) (g : Term) → TableStands l.self hs g → UsedIs (find_rows (length hs) (table_of l.self.sequent hs g).sums (take l.name-index l.names)) (table_of l.self.sequent hs g).atoms true l.used;
}
