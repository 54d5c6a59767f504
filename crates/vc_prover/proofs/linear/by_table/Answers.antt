use Rattle.std.proofs.Common.{◌∙◌, sym, ap, Some}
use Rattle.vc_prover.specs.working.Answers.{step_by}
use Rattle.vc_prover.proofs.Choosing.{by_table_found}
use Rattle.vc_prover.proofs.linear.by_table.Goals as goal

pub returns-in_ok-step-in-Ok : goal.returns-in_ok-step-in-Ok
returns-in_ok-step-in-Ok c =
    let found = by_table_found c.args.s.now c.args.table.now c.in-Ok.found.lines c.requires.table c.in-Ok.ensures.found in
    ap Some (c.in_ok-step-in-Ok.ensures ∙ (λ i. step_by (c.len.ensures i) (c.as_slice.ensures i) (c.as_slice-in-Ok.ensures i))) ∙ sym found
