use Rattle.std.proofs.Common.{◌∙◌, ap, arith}
use Rattle.math_terms.specs.Terms.{put}
use Rattle.main_prover.proofs.Counted.{at_end_found}
use Rattle.main_prover.proofs.deciding.is_true_at_end.Goals as goal

pub returns-in-Ok : goal.returns-in-Ok
returns-in-Ok c =
    at_end_found c.args.goal.now c.in-Ok.closed c.is_true.result (omega (arith, c.if-nodes_up_to-gt10000.false, c.nodes_up_to.ensures)) (c.in-Ok.ensures.exact ∙ ap (λ e. put 2 e c.args.goal.now) c.empty-empty.ensures) c.is_true.ensures
