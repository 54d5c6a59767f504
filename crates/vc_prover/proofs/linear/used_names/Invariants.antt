use Rattle.std.proofs.Common.{◌≡◌, map, take}
use Rattle.num_theory.specs.Naming.{name_among}
use Rattle.vc_prover.specs.working.Answers.{chosen}
use Rattle.vc_prover.proofs.linear.used_names.Given as goal

abbrev pub invariant-loop-at : goal.invariant-loop-at
invariant-loop-at l = l.out ≡ map (name_among l.hyps) (chosen 1 (take l.at l.names) l.lines)
