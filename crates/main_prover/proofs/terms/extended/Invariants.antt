use Rattle.std.proofs.Common.{◌≡◌, drop}
use Rattle.main_vcs.specs.Walk as walk
use Rattle.main_prover.proofs.terms.extended.Given as goal

abbrev pub invariant-loop-n : goal.invariant-loop-n
invariant-loop-n l = walk.extended l.all (drop l.n-index l.ns) ≡ walk.extended l.initial.all l.ns
