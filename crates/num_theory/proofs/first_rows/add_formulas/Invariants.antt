use Rattle.std.proofs.Common.{◌≡◌, take}
use Rattle.num_theory.specs.working.Gathering.{gathered_of, with_sums}
use Rattle.num_theory.specs.Table.{IsFew, sums_from}
use Rattle.num_theory.proofs.first_rows.add_formulas.Given as goal

abbrev pub invariant-loop-k : goal.invariant-loop-k
invariant-loop-k l = record {
  added : gathered_of l.table ≡ with_sums (gathered_of l.initial.table) (sums_from l.vars 1 (take l.k l.formulas));
  few : IsFew (gathered_of l.table);
}
