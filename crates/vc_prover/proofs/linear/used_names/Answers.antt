use Rattle.std.proofs.Common.{◌∙◌}
use Rattle.math_terms.specs.declared.name.RowName.TheVariants.{Hyp}
use Rattle.vc_prover.proofs.Choosing.{names_used, names_unused}
use Rattle.vc_prover.proofs.linear.used_names.Goals.{then-is_used+in_ok-push, else-is_used}
use Rattle.vc_prover.proofs.linear.used_names.Goals as goal

pub loop-at-preserved : goal.loop-at-preserved
loop-at-preserved c =
    elim c.if-is_used.branch [
      | then-is_used+in_ok-push w ↦
          names_used c.args.hyps c.args.names.now c.args.lines.now c.loop-at.at (Hyp 0) c.loop-at-test.true c.loop-at.out c.loop-at.invariant c.is_used.result c.if-is_used.out w.name_among.result
          c.is_used.ensures w.if-is_used.true w.name_among.ensures (w.out-is ∙ w.in_ok-push.ensures.ok)
      | else-is_used w ↦
          w.out-is ∙ names_unused c.args.hyps c.args.names.now c.args.lines.now c.loop-at.at (Hyp 0) c.loop-at-test.true c.loop-at.out c.loop-at.invariant c.is_used.result c.is_used.ensures w.if-is_used.false
    ]
