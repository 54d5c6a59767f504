use Rattle.std.proofs.Common.{◌≡◌, ◌-◌, List, drop, slice_get}
use Rattle.std.specs.List.{flat_map}
use Rattle.math_terms.specs.declared.term.Term.{Term}
use Rattle.num_theory.specs.Table.{facts_of}
use Rattle.term_cells.specs.Placed.{AllStand}
use Rattle.cell_rows.specs.Sequents.{SameRoom}
use Rattle.cell_rows.proofs.naming.fact_numbered.Given as goal

abbrev pub invariant-loop-atom : goal.invariant-loop-atom
invariant-loop-atom l = record {
  room : SameRoom l.initial.sheet l.sheet;
  left : (ts : List Term) → AllStand l.cells.0 ts l.atoms → slice_get (flat_map facts_of ts) (l.k - 1) ≡ slice_get (flat_map facts_of (drop l.atom-index ts)) l.left;
}
