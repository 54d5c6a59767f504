use Rattle.std.proofs.Common.{◌≡◌, take}
use Rattle.vc_sequents.proofs.sequent.copy_vars.Given as goal

abbrev pub invariant-loop-v : goal.invariant-loop-v
invariant-loop-v l = l.out ≡ take l.v-index l.vars
