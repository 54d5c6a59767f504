use Rattle.std.proofs.Common.{◌<◌, ap, length, List, arith}
use Rattle.std.proofs.lemmas.Bool.Decides.{nat_tests}
use Rattle.cert_form.specs.declared.cert.Step.{Step}
use Rattle.cert_check.specs.Need.{need_of}
use Rattle.cert_check.specs.working.Room.{HasRoom}
use Rattle.cert_check.proofs.Showing.{legal_shown}
use Rattle.cert_check.proofs.desk.check.Goals as goal

pub returns-clause-valid : goal.returns-clause-valid
returns-clause-valid c =
    legal_shown c.legal_is_valid.ensures c.args.cert.now.steps c.as_slice-steps.result.now c.as_slice-steps.ensures c.args.s.now c.verdict.result (c.verdict.ensures.exact c.args.s.now c.check-end.ensures.exact)

pub returns-clause-full : goal.returns-clause-full
returns-clause-full c = λ e.
    let path = c.desk.inside.path in
    let inv = c.desk.invariant in
    let steps = c.as_slice-steps.result.now in
    let room : HasRoom path = record { cells = omega arith; places = omega arith; few = omega arith } in
    let some : 0 < length steps = grind (arith, nat_tests, c.is_empty.ensures, c.if-is_empty.false) in
    let short = c.verdict.ensures.full c.args.s.now path.sheet (c.check-end.ensures.short room some) e in
    omega (arith, short, ap (λ (sts : List Step). need_of sts c.args.s.now) c.as_slice-steps.ensures, c.desk.view_is)
