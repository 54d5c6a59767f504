use Rattle.std.proofs.Common.{◌∙◌, sym, ap}
use Rattle.vc_prover.specs.Search.{clash_from}
use Rattle.vc_prover.proofs.Firsts.{clash_here, clash_later}
use Rattle.vc_prover.proofs.closing.by_clash.Goals as goal

pub returns-in-Some : goal.returns-in-Some
returns-in-Some c =
    let hyps = c.as_slice-hyps.result.now in
    sym (clash_here hyps hyps c.loop-at.at c.index-hyps-at.result c.loop-at-test.true c.index-hyps-at.is c.loop-at.invariant c.first_negated.result c.in-Some.k c.first_negated.ensures c.in-Some.is)
    ∙ ap (λ hs. clash_from 1 hs hs) c.as_slice-hyps.ensures

pub loop-at-preserved : goal.loop-at-preserved
loop-at-preserved c =
    let hyps = c.as_slice-hyps.result.now in
    clash_later hyps hyps c.loop-at.at c.index-hyps-at.result c.loop-at-test.true c.index-hyps-at.is c.loop-at.invariant c.first_negated.result c.first_negated.ensures c.in_default.is
