use Rattle.std.proofs.Common.{subst}
use Rattle.cert_check.specs.declared.cases.Part.{Part}
use Rattle.cert_check.specs.working.Cases.{PartIs}
use Rattle.cert_check.proofs.Made.{two_made}
use Rattle.cert_check.proofs.cases.make.Goals as goal

pub returns-in-Two-clause-standing : goal.returns-in-Two-clause-standing
returns-in-Two-clause-standing c = λ t part.
    two_made c.args.cells.now.0 c.two.new.self.0 c.in-Two.form c.in-Two.p c.in-Two.q c.two.result c.two.ensures.node t (subst (λ (x : Part). PartIs c.args.cells.now.0 x t) c.in-Two.is part)
