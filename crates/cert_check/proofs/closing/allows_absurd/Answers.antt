use Rattle.std.proofs.Common.{sym}
use Rattle.cert_check.specs.Legality.{is_false}
use Rattle.cert_check.proofs.Telling.{absurd_told, passes_none}
use Rattle.cert_check.proofs.closing.allows_absurd.Goals as goal

pub returns-in-Some : goal.returns-in-Some
returns-in-Some c = λ fs all. absurd_told c.args.cells.now.0 fs c.args.hyps.now all c.args.k c.in-Some.p (sym c.in-Some.ensures) c.is_false.result c.is_false.ensures

pub returns-in-None : goal.returns-in-None
returns-in-None c = λ fs all. passes_none c.args.cells.now.0 fs c.args.hyps.now all is_false c.args.k (sym c.in-None.ensures)
