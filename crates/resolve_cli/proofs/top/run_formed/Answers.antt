use Rattle.std.proofs.Common.{◌≡◌, refl, subst, inr, rules, Some, None}
use Rattle.std.specs.Prelude.{IfOk}
use Rattle.component_checks.specs.Checks.{mistake_of}
use Rattle.resolve_cli.specs.declared.status.Status.TheVariants as status
use Rattle.resolve_cli.specs.Answer as stage
use Rattle.resolve_cli.specs.Answer.{ComponentsAnswer, ModuleAnswer}
use Rattle.report_lines.specs.Lines.{mistake_line}
use Rattle.resolve_cli.proofs.Stages.{nothing_known, refused_answered, some_within}
use Rattle.resolve_cli.proofs.top.run_formed.Goals as goal

pub returns-in-Ok-None-clause-answered : goal.returns-in-Ok-None-clause-answered
returns-in-Ok-None-clause-answered g c =
    let cs = c.args.components in
    let m = c.args.m.now in
    let without : mistake_of cs ≡ None = search rules in
    some_within (ModuleAnswer m c.args.steps) (ComponentsAnswer cs c.args.steps) (λ input s out a. stage.checked m c.requires.is without a) (g.S.Source.left c.args.input.now) c.run_module.result (g.K.Sink.held c.args.out.now) (g.K.Sink.held c.run_module.new.out) c.run_module.ensures.answered

pub returns-in-Ok-Some-clause-answered : goal.returns-in-Ok-Some-clause-answered
returns-in-Ok-Some-clause-answered g c =
    let cs = c.args.components in
    let m = c.args.m.now in
    let e = c.in-Ok-Some.mistake in
    let held = g.K.Sink.held c.args.out.now in
    let wrong : mistake_of cs ≡ Some e = search rules in
    let lined : IfOk c.mistake_line.result (λ l. l ≡ mistake_line m.name e) =
    subst (λ n. IfOk c.mistake_line.result (λ l. l ≡ mistake_line n e)) c.bytes.ensures c.mistake_line.ensures in
    refused_answered (ComponentsAnswer cs c.args.steps) (g.S.Source.left c.args.input.now) held c.mistake_line.result c.refused.result (mistake_line m.name e) c.refused.ensures lined (λ input. stage.mistaken m e c.requires.is wrong refl refl) (c.unchanged.ensures held)

pub returns-in-Err-clause-answered : goal.returns-in-Err-clause-answered
returns-in-Err-clause-answered g c =
    let held = g.K.Sink.held c.args.out.now in
    nothing_known (ComponentsAnswer c.args.components c.args.steps) (g.S.Source.left c.args.input.now) status.NoMemory held (inr (inr refl)) (c.unchanged.ensures held)
