use Rattle.std.proofs.Common.{◌≡◌, ◌≤◌, ◌*◌, ◌-◌}
use Rattle.num_theory.specs.working.Gathering.{gathered_of}
use Rattle.num_theory.specs.Table.{IsFew, with_all_facts}
use Rattle.num_theory.proofs.first_rows.add_all_facts.Given as goal

abbrev pub invariant-loop-i : goal.invariant-loop-i
invariant-loop-i l = record {
  left : with_all_facts 64 0 (gathered_of l.initial.table) ≡ with_all_facts (64 - l.i) l.i (gathered_of l.table);
  few : IsFew (gathered_of l.table);
  counted : l.table.facts ≤ 2 * l.i;
}
