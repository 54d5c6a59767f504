use Rattle.std.proofs.Common.{◌≡◌, ◌≤◌, length, drop}
use Rattle.num_theory.specs.Linear.{text_before}
use Rattle.num_theory.proofs.texts.stands_before.Given as goal

abbrev pub invariant-loop-k : goal.invariant-loop-k
invariant-loop-k l = record {
  within : l.k ≤ length l.b;
  rest : text_before l.a l.b ≡ text_before (drop l.k l.a) (drop l.k l.b);
}
