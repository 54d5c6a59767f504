use Rattle.std.proofs.Common.{◌≡◌, ◌+◌, drop}
use Rattle.vc_prover.specs.Search.{clash_from}
use Rattle.vc_prover.proofs.closing.by_clash.Given as goal

abbrev pub invariant-loop-at : goal.invariant-loop-at
invariant-loop-at l = clash_from 1 l.hyps l.hyps ≡ clash_from (l.at + 1) l.hyps (drop l.at l.hyps)
