use Rattle.std.proofs.Common.{subst, arith}
use Rattle.std.specs.Prelude.{IsSome}
use Rattle.stack_machine.specs.Machine.{after}
use Rattle.stack_machine.specs.Runs.{Stopped}
use Rattle.stack_machine.specs.declared.image.Stop.TheVariants as stop
use Rattle.resolve_cli.proofs.Ran.{halted_answered, spent_answered, fault_answered, memory_answered}
use Rattle.resolve_cli.proofs.running.run_image.Goals as goal

pub returns-in-Halted-clause-answered : goal.returns-in-Halted-clause-answered
returns-in-Halted-clause-answered g c =
    let old = g.K.Sink.held c.args.out.now in
    let new = g.K.Sink.held c.run.new.out in
    λ m is. halted_answered m c.args.numbers.now c.args.steps old new (subst (λ i. Stopped i c.args.numbers.now c.args.steps stop.Halted old new) is c.in-Halted.ensures.stopped)

pub returns-in-StepsSpent-clause-answered : goal.returns-in-StepsSpent-clause-answered
returns-in-StepsSpent-clause-answered g c =
    let old = g.K.Sink.held c.args.out.now in
    let new = g.K.Sink.held c.run.new.out in
    λ m is. spent_answered m c.args.numbers.now c.args.steps old new (subst (λ i. Stopped i c.args.numbers.now c.args.steps stop.StepsSpent old new) is c.in-StepsSpent.ensures.stopped)

pub returns-in-SinkFault-clause-answered : goal.returns-in-SinkFault-clause-answered
returns-in-SinkFault-clause-answered g c =
    let old = g.K.Sink.held c.args.out.now in
    let new = g.K.Sink.held c.run.new.out in
    λ m is. fault_answered m c.args.numbers.now c.args.steps old new (subst (λ i. Stopped i c.args.numbers.now c.args.steps stop.SinkFault old new) is c.in-SinkFault.ensures.stopped)

pub returns-in-NoMemory-clause-answered : goal.returns-in-NoMemory-clause-answered
returns-in-NoMemory-clause-answered g c =
    let old = g.K.Sink.held c.args.out.now in
    let new = g.K.Sink.held c.run.new.out in
    λ m is. memory_answered m c.args.numbers.now c.args.steps c.output_grows.ensures (subst (λ i. IsSome (after i c.args.numbers.now c.args.steps)) is (c.requires.never_stuck c.args.steps (omega arith))) old new (subst (λ i. Stopped i c.args.numbers.now c.args.steps stop.NoMemory old new) is c.in-NoMemory.ensures.stopped)
