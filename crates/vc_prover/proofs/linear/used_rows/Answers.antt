use Rattle.std.proofs.Common.{◌∙◌}
use Rattle.vc_prover.proofs.Choosing.{numbers_used, numbers_unused}
use Rattle.vc_prover.proofs.linear.used_rows.Goals.{then-is_used+in_ok-push, else-is_used}
use Rattle.vc_prover.proofs.linear.used_rows.Goals as goal

pub loop-k-preserved : goal.loop-k-preserved
loop-k-preserved c =
    elim c.if-is_used.branch [
      | then-is_used+in_ok-push w ↦
          numbers_used c.loop-k.k c.args.lines.now c.loop-k.used c.loop-k.invariant c.is_used.result c.if-is_used.used c.is_used.ensures w.if-is_used.true (w.used-is ∙ w.in_ok-push.ensures.ok)
      | else-is_used w ↦ w.used-is ∙ numbers_unused c.loop-k.k c.args.lines.now c.loop-k.used c.loop-k.invariant c.is_used.result c.is_used.ensures w.if-is_used.false
    ]
