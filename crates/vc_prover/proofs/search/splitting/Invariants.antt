use Rattle.std.proofs.Common.{◌≡◌, ◌+◌, ◌-◌, length}
use Rattle.vc_prover.specs.Search.{split_from, splitting}
use Rattle.vc_prover.proofs.search.splitting.Given as goal

abbrev pub invariant-loop-k : goal.invariant-loop-k
invariant-loop-k l = splitting l.s ≡ split_from (l.k + 1) (length l.s.hyps - l.k) l.s
