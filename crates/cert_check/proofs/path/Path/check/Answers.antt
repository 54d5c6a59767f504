use Rattle.std.proofs.Common.{arith}
use Rattle.cert_check.proofs.Needing.{needs_room}
use Rattle.cert_check.proofs.path.Path.check.Goals as goal

pub returns-in_default-clause-short : goal.returns-in_default-clause-short
returns-in_default-clause-short c = λ room some.
    needs_room c.args.steps.now 0 (0, c.args.s.now) c.args.self.now.sheet some (omega (arith, c.in_default.ensures.takes room))
