use Rattle.std.proofs.Common.{◌≡◌}
use Rattle.vc_prover.specs.Search.{used_from}
use Rattle.vc_prover.proofs.linear.used_rows.Given as goal

abbrev pub invariant-loop-k : goal.invariant-loop-k
invariant-loop-k l = l.used ≡ used_from 1 l.k l.lines
