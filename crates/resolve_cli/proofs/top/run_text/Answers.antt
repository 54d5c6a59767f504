use Rattle.std.proofs.Common.{rules}
use Rattle.module_parser.specs.Spelling.{Spells}
use Rattle.resolve_cli.specs.Answer as stage
use Rattle.resolve_cli.specs.Answer.{ComponentsAnswer, TextAnswer}
use Rattle.resolve_cli.proofs.Stages.{some_within}
use Rattle.resolve_cli.proofs.top.run_text.Goals as goal

pub returns-in-Ok-clause-answered : goal.returns-in-Ok-clause-answered
returns-in-Ok-clause-answered g c =
    let cs = c.in-Ok.components in
    let bytes = c.args.bytes.now in
    let spells : Spells bytes cs = search rules in
    some_within (ComponentsAnswer cs c.args.steps) (TextAnswer c.args.file.now bytes c.args.steps) (λ input s out a. stage.spelled cs spells a) (g.S.Source.left c.args.input.now) c.run_components.result (g.K.Sink.held c.args.out.now) (g.K.Sink.held c.run_components.new.out) c.run_components.ensures.answered
