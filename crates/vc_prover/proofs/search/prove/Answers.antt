use Rattle.std.proofs.Common.{arith, rules}
use Rattle.std.proofs.lemmas.Grind.{common_steps}
use Rattle.vc_prover.proofs.Standing.{ended, refusal, step_keeps, step_less}
use Rattle.vc_prover.proofs.search.prove.Goals as goal

pub loop-next-smaller : goal.loop-next-smaller
loop-next-smaller c =
    step_less c.splits_end.ensures c.in-Some.next c.pop.new.self.items c.loop-next.done c.step-stepped.new.todo.items c.step-stepped.new.done c.loop-next.todo.items c.in-Some.ensures.items c.in_ok-stepped.ensures.ok

pub loop-next-preserved : goal.loop-next-preserved
loop-next-preserved c =
    step_keeps c.args.s.now c.in-Some.next c.pop.new.self.items c.loop-next.done c.loop-next.todo.items c.in-Some.ensures.items c.loop-next.invariant c.step-stepped.new.todo.items c.step-stepped.new.done
    c.in_ok-stepped.ensures.ok

pub returns-in_err-stepped-clause-refused : goal.returns-in_err-stepped-clause-refused
returns-in_err-stepped-clause-refused c =
    let h = refusal c.args.s.now c.in-Some.next c.pop.new.self.items c.loop-next.done c.loop-next.todo.items c.in-Some.ensures.items c.loop-next.invariant c.in_err-stepped.field-0.0 c.in_err-stepped.ensures.refused in
    search rules

pub returns-clause-found : goal.returns-clause-found
returns-clause-found c = ended c.args.s.now c.loop-next.todo.items c.loop-next.done (grind (arith, common_steps)) c.loop-next.invariant

pub returns-clause-legal : goal.returns-clause-legal
returns-clause-legal c =
    c.found_is_legal.ensures c.args.s.now c.loop-next.done.steps (ended c.args.s.now c.loop-next.todo.items c.loop-next.done (grind (arith, common_steps)) c.loop-next.invariant)
