use Rattle.std.proofs.Common.{sym}
use Rattle.math_terms.specs.Heads.{same_term}
use Rattle.cert_check.proofs.Telling.{hyp_told, passes_none}
use Rattle.cert_check.proofs.closing.allows_hyp.Goals as goal

pub returns-in-Some : goal.returns-in-Some
returns-in-Some c = λ fs all t standing.
    hyp_told c.args.cells.now.0 fs c.args.hyps.now all c.same_terms_are_equal.ensures c.args.k c.in-Some.p (sym c.in-Some.ensures) t c.args.goal standing c.same.result c.same.ensures

pub returns-in-None : goal.returns-in-None
returns-in-None c = λ fs all t standing. passes_none c.args.cells.now.0 fs c.args.hyps.now all (same_term t) c.args.k (sym c.in-None.ensures)
