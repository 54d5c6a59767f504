use Rattle.std.proofs.Common.{pos}
use Rattle.cert_check.proofs.Made.{and_not_made}
use Rattle.cert_check.proofs.cases.make_and_not.Goals as goal

pub returns-clause-standing : goal.returns-clause-standing
returns-clause-standing c =
    and_not_made c.standing_lasts.ensures c.args.cells.now c.one.new.self c.two.new.self.0 (record { form = 21; own = pos 0; a = c.args.q; b = 0; c = 0 }) c.args.p c.args.q c.in_ok-right.right c.two.result c.in_ok-right.ensures.pushed c.in_ok-right.ensures.node c.two.ensures.node
