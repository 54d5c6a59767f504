use Rattle.std.proofs.Common.{pos}
use Rattle.cert_check.proofs.Made.{of_negations_made}
use Rattle.cert_check.proofs.cases.make_of_negations.Goals as goal

pub returns-clause-standing : goal.returns-clause-standing
returns-clause-standing c =
    of_negations_made c.standing_lasts.ensures c.args.cells.now c.one.new.self c.one-2.new.self c.two.new.self.0 (record { form = 21; own = pos 0; a = c.args.p; b = 0; c = 0 }) (record { form = 21; own = pos 0; a = c.args.q; b = 0; c = 0 }) c.args.form c.args.p c.args.q c.in_ok-left.left c.in_ok-right.right c.two.result c.in_ok-left.ensures.pushed c.in_ok-right.ensures.pushed c.in_ok-left.ensures.node c.in_ok-right.ensures.node c.two.ensures.node
