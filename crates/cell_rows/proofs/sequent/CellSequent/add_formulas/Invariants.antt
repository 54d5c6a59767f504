use Rattle.std.proofs.Common.{◌≤◌, List, [], length, take}
use Rattle.math_terms.specs.declared.term.Term.{Term}
use Rattle.num_theory.specs.Table.{atoms_of, sums_from}
use Rattle.term_cells.specs.KindShown.{sorts_of_vars}
use Rattle.term_cells.specs.Placed.{AllStand}
use Rattle.cell_rows.specs.Sequents.{SameRoom}
use Rattle.cell_rows.proofs.sequent.CellSequent.add_formulas.Given as goal

abbrev pub invariant-loop-p : goal.invariant-loop-p
invariant-loop-p l = record {
  room : SameRoom l.initial.sheet l.sheet;
  within : l.count ≤ length l.places;
  added : (hs : List Term) → AllStand l.self.cells.now.0 hs l.self.hyps.now → AllStand l.self.cells.now.0 (atoms_of [] (sums_from (sorts_of_vars l.self.vars.now) 1 (take l.p-index hs))) (take l.count l.places);
}
