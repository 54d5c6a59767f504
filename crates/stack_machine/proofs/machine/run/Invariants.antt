use Rattle.std.proofs.Common.{◌≤◌, length}
use Rattle.stack_machine.proofs.Telling.{Reached}
use Rattle.stack_machine.proofs.machine.run.Given as goal

abbrev pub invariant-loop-done : goal.invariant-loop-done
invariant-loop-done g l = record {
  reached : Reached l.image l.input l.done l.running (g.K.Sink.held l.initial.out) (g.K.Sink.held l.out);
  taken : l.running.taken ≤ length l.input;
  faults : g.K.Sink.faults l.initial.out ≤ g.K.Sink.faults l.out;
}
