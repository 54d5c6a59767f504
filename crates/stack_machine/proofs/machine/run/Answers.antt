use Rattle.std.proofs.Common.{arith}
use Rattle.stack_machine.proofs.Telling.{can_step, reached_on, stopped_halted, stopped_fault}
use Rattle.stack_machine.proofs.machine.run.Goals as goal

pub step-requires-clause-can : goal.step-requires-clause-can
step-requires-clause-can g c =
    can_step _ _ c.args.steps c.loop-done.done c.loop-done.running _ _ c.requires.never_stuck c.loop-done-test.true c.loop-done.invariant.reached

pub returns-in_default-tell-clause-stopped : goal.returns-in_default-tell-clause-stopped
returns-in_default-tell-clause-stopped g c =
    stopped_fault _ _ c.args.steps c.loop-done.done _ _ _ _ _ _ c.requires.never_stuck c.loop-done-test.true c.loop-done.invariant.reached c.in-Ok-step.ensures.steps c.in_default-tell.ensures.prefix

pub returns-in-Returned-clause-stopped : goal.returns-in-Returned-clause-stopped
returns-in-Returned-clause-stopped g c =
    stopped_halted _ _ c.args.steps c.loop-done.done _ _ _ _ _ _ c.loop-done-test.true c.loop-done.invariant.reached c.in-Ok-step.ensures.steps c.in-Ok-tell.ensures.appended c.in-Returned.is

pub loop-done-preserved : goal.loop-done-preserved
loop-done-preserved g c = record {
  reached = reached_on _ _ c.loop-done.done _ _ _ _ _ _ c.loop-done.invariant.reached c.in-Ok-step.ensures.steps c.in-Ok-tell.ensures.appended c.in_default-effect.not-Returned;
  taken = c.in-Ok-step.ensures.taken;
  faults = omega (arith, c.loop-done.invariant.faults, c.in-Ok-tell.ensures.never_falls);
}
