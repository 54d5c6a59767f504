use Rattle.std.proofs.Common.{◌≡◌, ◌≤◌, ◌<◌, refl, subst, length, rules}
use Rattle.std.specs.Prelude.{IfOk}
use Rattle.resolve_cli.specs.declared.status.Status.TheVariants as status
use Rattle.resolve_cli.specs.Answer as stage
use Rattle.resolve_cli.specs.Answer.{FileAnswer, TextAnswer, most_component_bytes}
use Rattle.resolve_cli.proofs.Stages.{named_answered, some_within}
use Rattle.resolve_cli.proofs.top.run_bytes.Goals as goal

pub returns-then-bytes-most_component_bytes-clause-answered : goal.returns-then-bytes-most_component_bytes-clause-answered
returns-then-bytes-most_component_bytes-clause-answered g c =
    let name = c.args.file.now in
    let held = g.K.Sink.held c.args.out.now in
    let long : most_component_bytes < length c.args.bytes.now = search rules in
    let named = subst (λ n. IfOk c.new.result (λ l. l ≡ n)) c.as_bytes.ensures.value c.new.ensures in
    named_answered (λ l. status.FileTooLong l) (FileAnswer name c.args.bytes.now c.args.steps) (g.S.Source.left c.args.input.now) held c.new.result c.too_long.result name c.too_long.ensures named (λ input. stage.long long refl refl) (c.unchanged.ensures held)

pub returns-else-bytes-most_component_bytes-clause-answered : goal.returns-else-bytes-most_component_bytes-clause-answered
returns-else-bytes-most_component_bytes-clause-answered g c =
    let name = c.args.file.now in
    let bytes = c.args.bytes.now in
    let few : length bytes ≤ most_component_bytes = search rules in
    some_within (TextAnswer name bytes c.args.steps) (FileAnswer name bytes c.args.steps) (λ input s out a. stage.short few a) (g.S.Source.left c.args.input.now) c.run_text.result (g.K.Sink.held c.args.out.now) (g.K.Sink.held c.run_text.new.out) c.run_text.ensures.answered
