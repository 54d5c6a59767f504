use Rattle.std.proofs.Common.{◌≡◌, take}
use Rattle.main_prover.proofs.path.copy_vars.Given as goal

abbrev pub invariant-loop-v : goal.invariant-loop-v
invariant-loop-v l = l.out ≡ take l.v-index l.vars
