use Rattle.std.proofs.Common.{sym, ◌∙◌}
use Rattle.type_rules.proofs.Repeated.{among_here, among_later, told}
use Rattle.type_rules.proofs.names.Names.has.Goals as goal

pub returns-then-same : goal.returns-then-same
returns-then-same c =
    sym (among_here c.args.name.now c.args.self.now c.as_slice-own-items.result.now c.loop-own.own-index c.own-item.result c.loop-own-test.true c.own-item.is c.loop-own.invariant (told c.same.result c.args.name.now c.own-item.result.now c.same.ensures ∙ c.if-same.true))

pub loop-own-preserved : goal.loop-own-preserved
loop-own-preserved c =
    among_later c.args.name.now c.args.self.now c.as_slice-own-items.result.now c.loop-own.own-index c.own-item.result c.loop-own-test.true c.own-item.is c.loop-own.invariant (told c.same.result c.args.name.now c.own-item.result.now c.same.ensures ∙ c.if-same.false)
