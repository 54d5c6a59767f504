use Rattle.std.proofs.Common.{sym, ◌∙◌}
use Rattle.cert_check.proofs.Telling.{clash_told, no_first, no_second}
use Rattle.cert_check.proofs.closing.allows_clash.Goals as goal

pub returns-in-Some-Some : goal.returns-in-Some-Some
returns-in-Some-Some c = λ fs all.
    clash_told c.args.cells.now.0 fs c.args.hyps.now all c.args.k c.in-Some-Some.p c.args.l c.in-Some-Some.q (sym c.in-Some-Some.ensures) (sym c.in-Some-Some.ensures') c.is_negation_of.result c.is_negation_of.ensures

pub returns-in_default : goal.returns-in_default
returns-in_default c = λ fs all. no_second c.args.cells.now.0 fs c.args.hyps.now all c.args.k c.args.l (sym c.in_default.ensures')

pub returns-in_default-2 : goal.returns-in_default-2
returns-in_default-2 c = λ fs all. no_first c.args.cells.now.0 fs c.args.hyps.now all c.args.k c.args.l (sym c.named.ensures ∙ c.in_default.is-0)
