use Rattle.std.proofs.Common.{refl, inr}
use Rattle.resolve_cli.specs.declared.status.Status.TheVariants as status
use Rattle.resolve_cli.specs.Answer as stage
use Rattle.resolve_cli.specs.Answer.{ModuleAnswer}
use Rattle.report_lines.specs.Lines.{unproved_line}
use Rattle.resolve_cli.proofs.Stages.{nothing_known, refused_answered}
use Rattle.resolve_cli.proofs.running.run_module.Goals as goal

pub returns-in-Ok-Some-clause-answered : goal.returns-in-Ok-Some-clause-answered
returns-in-Ok-Some-clause-answered g c =
    let m = c.args.m.now in
    let held = g.K.Sink.held c.args.out.now in
    let first = rw c.in-Ok-Some.field-0-is at c.in-Ok-Some.ensures in
    let u = c.in-Ok-Some.first in
    refused_answered (ModuleAnswer m c.args.steps) (g.S.Source.left c.args.input.now) held c.line_of.result c.refused.result (unproved_line m.name u.number u.kind u.at) c.refused.ensures c.line_of.ensures (λ input. stage.unproved u first refl refl) (c.unchanged.ensures held)

pub returns-in-Err-clause-answered : goal.returns-in-Err-clause-answered
returns-in-Err-clause-answered g c =
    let held = g.K.Sink.held c.args.out.now in
    nothing_known (ModuleAnswer c.args.m.now c.args.steps) (g.S.Source.left c.args.input.now) status.NoMemory held (inr (inr refl)) (c.unchanged.ensures held)
