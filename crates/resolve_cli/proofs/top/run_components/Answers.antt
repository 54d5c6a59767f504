use Rattle.std.proofs.Common.{◌≡◌, refl, subst, inr, rules}
use Rattle.std.specs.Prelude.{IfOk}
use Rattle.main_form.specs.declared.file.Shape.TheVariants as shape
use Rattle.main_form.specs.Shape.{shape_of}
use Rattle.resolve_cli.specs.declared.status.Status.TheVariants as status
use Rattle.resolve_cli.specs.Answer as stage
use Rattle.resolve_cli.specs.Answer.{ComponentsAnswer}
use Rattle.report_lines.specs.Lines.{not_built_line}
use Rattle.resolve_cli.proofs.Stages.{nothing_known, refused_answered}
use Rattle.resolve_cli.proofs.top.run_components.Goals as goal

pub returns-in-Ok-NotBuilt-clause-answered : goal.returns-in-Ok-NotBuilt-clause-answered
returns-in-Ok-NotBuilt-clause-answered g c =
    let cs = c.args.components in
    let component = c.in-Ok-NotBuilt.name in
    let at = c.in-Ok-NotBuilt.at in
    let held = g.K.Sink.held c.args.out.now in
    let of : shape_of cs ≡ shape.NotBuilt component at = search rules in
    let lined : IfOk c.not_built_line.result (λ l. l ≡ not_built_line component at) =
    subst (λ n. IfOk c.not_built_line.result (λ l. l ≡ not_built_line n at)) c.bytes.ensures c.not_built_line.ensures in
    refused_answered (ComponentsAnswer cs c.args.steps) (g.S.Source.left c.args.input.now) held c.not_built_line.result c.refused.result (not_built_line component at) c.refused.ensures lined (λ input. stage.unbuilt component at of refl refl) (c.unchanged.ensures held)

pub returns-in-Err-clause-answered : goal.returns-in-Err-clause-answered
returns-in-Err-clause-answered g c =
    let held = g.K.Sink.held c.args.out.now in
    nothing_known (ComponentsAnswer c.args.components c.args.steps) (g.S.Source.left c.args.input.now) status.NoMemory held (inr (inr refl)) (c.unchanged.ensures held)
