use Rattle.std.proofs.Common.{rules, arith}
use Rattle.std.proofs.lemmas.Grind.{common_steps}
use Rattle.vc_sequents.proofs.Working.{finished, refusal, starts, step_keeps, step_less}
use Rattle.vc_sequents.proofs.splitting.leaves.Goals as goal

pub loop-next-init : goal.loop-next-init
loop-next-init c = starts _ _ _ (grind (arith, common_steps)) c.new-done.ensures.items

pub loop-next-smaller : goal.loop-next-smaller
loop-next-smaller c =
    step_less c.args.s.now c.in-Some.next c.pop.new.self.items c.loop-next.done.items c.step.new.todo.items c.step.new.done.items c.loop-next.todo.items c.in-Some.ensures.items
    c.in_ok-step.ensures.ok

pub loop-next-preserved : goal.loop-next-preserved
loop-next-preserved c =
    step_keeps c.args.s.now c.in-Some.next c.pop.new.self.items c.loop-next.done.items c.step.new.todo.items c.step.new.done.items c.loop-next.todo.items c.in-Some.ensures.items
    c.in_ok-step.ensures.ok c.loop-next.invariant

pub returns-in_err-step-clause-refused : goal.returns-in_err-step-clause-refused
returns-in_err-step-clause-refused c =
    let h = refusal c.args.s.now c.in-Some.next c.loop-next.todo.items c.pop.new.self.items c.loop-next.done.items c.in_err-step.field-0.0 c.in-Some.ensures.items c.in_err-step.ensures.refused c.loop-next.invariant in
    search rules

pub returns-clause-exact : goal.returns-clause-exact
returns-clause-exact c = finished c.splits_keep_validity.ensures c.args.s.now c.loop-next.todo.items c.loop-next.done.items (grind (arith, common_steps)) c.loop-next.invariant
