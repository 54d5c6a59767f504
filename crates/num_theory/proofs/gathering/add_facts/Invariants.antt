use Rattle.std.proofs.Common.{◌≡◌, ◌+◌, take}
use Rattle.num_theory.specs.working.Gathering.{gathered_of, with_each_fact}
use Rattle.num_theory.specs.Table.{IsFew}
use Rattle.num_theory.proofs.gathering.add_facts.Given as goal

abbrev pub invariant-loop-fact : goal.invariant-loop-fact
invariant-loop-fact l = record {
  added : gathered_of l.table ≡ with_each_fact (gathered_of l.initial.table) (take l.fact-index l.facts);
  few : IsFew (gathered_of l.table);
  counted : l.table.facts ≡ l.initial.table.facts + l.fact-index;
}
