use Rattle.std.proofs.Common.{arith}
use Rattle.cert_check.proofs.Ends.{ends_early}
use Rattle.cert_check.proofs.desk.verdict.Goals as goal

pub returns-then-next-steps-clause-exact : goal.returns-then-next-steps-clause-exact
returns-then-next-steps-clause-exact c = λ s walked full. ends_early c.args.steps.now s c.args.end walked c.in-Ok.next c.in-Ok.is (omega arith)
