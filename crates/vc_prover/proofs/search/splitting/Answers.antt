use Rattle.std.proofs.Common.{◌≡◌, ◌+◌, subst, MatchOption, None, Some, arith}
use Rattle.vc_sequents.specs.Splitting.{split_at}
use Rattle.vc_prover.proofs.Standing.{splits_later}
use Rattle.vc_prover.proofs.search.splitting.Goals as goal

pub loop-k-preserved : goal.loop-k-preserved
loop-k-preserved c =
    let none = subst (λ o. MatchOption o (split_at (c.loop-k.k + 1) c.args.s.now ≡ None) (λ ss. split_at (c.loop-k.k + 1) c.args.s.now ≡ Some ss.items)) c.in_default.is c.in_ok-parts.ensures in
    splits_later c.args.s.now c.loop-k.k c.loop-k.invariant (omega arith) none
