use Rattle.std.proofs.Common.{◌≡◌, ap, refl, [], rules}
use Rattle.std.specs.Prelude.{Ok}
use Rattle.edge_io.specs.Numbers.{reading}
use Rattle.edge_io.specs.declared.numbers.InputError.TheVariants as error
use Rattle.resolve_cli.specs.declared.status.Status.TheVariants as status
use Rattle.resolve_cli.specs.Answer as stage
use Rattle.resolve_cli.specs.Answer.{ModuleAnswer, RunAnswer}
use Rattle.resolve_cli.specs.Resolves.{answer}
use Rattle.resolve_cli.proofs.Inputs.{is_input}
use Rattle.resolve_cli.proofs.Stages.{answered_within}
use Rattle.resolve_cli.proofs.running.run_on_input.Goals as goal

pub run_image-requires-clause-never_stuck : goal.run_image-requires-clause-never_stuck
run_image-requires-clause-never_stuck g c =
    let numbers = c.as_slice.result.now in
    let text = c.in-Ok.ensures.reading in
    let reads : reading text.0 ≡ Ok numbers = search rules in
    λ n within. c.requires.never_stuck numbers (is_input text.0 numbers reads) n

pub returns-in-Ok-clause-answered : goal.returns-in-Ok-clause-answered
returns-in-Ok-clause-answered g c =
    let numbers = c.as_slice.result.now in
    let text = c.in-Ok.ensures.reading in
    let reads : reading text.0 ≡ Ok numbers = search rules in
    (text.0, text.1, λ m is built. answered_within (RunAnswer m numbers c.args.steps) (ModuleAnswer m c.args.steps text.0) (λ s out a. stage.ran built numbers reads a) c.run_image.result (g.K.Sink.held c.args.out.now) (g.K.Sink.held c.run_image.new.out) (c.run_image.ensures.answered m is))

pub returns-in-Err-TooLong-clause-answered : goal.returns-in-Err-TooLong-clause-answered
returns-in-Err-TooLong-clause-answered g c =
    let text = c.in-Err-TooLong.ensures.reading in
    let reads = rw c.in-Err-TooLong.field-0-is at text.2 in
    (text.0, text.1, λ m is built. answer [] (stage.bad_input built _ reads refl refl) (c.unchanged.ensures (g.K.Sink.held c.args.out.now)))

pub returns-in-Err-NoNumber-clause-answered : goal.returns-in-Err-NoNumber-clause-answered
returns-in-Err-NoNumber-clause-answered g c =
    let text = c.in-Err-NoNumber.ensures.reading in
    let reads = rw c.in-Err-NoNumber.field-0-is at text.2 in
    (text.0, text.1, λ m is built. answer [] (stage.bad_input built _ reads (ap (λ n. status.BadInput (error.NoNumber n)) c.in-Err-NoNumber.at-is) refl) (c.unchanged.ensures (g.K.Sink.held c.args.out.now)))

pub returns-in-Err-TooMany-clause-answered : goal.returns-in-Err-TooMany-clause-answered
returns-in-Err-TooMany-clause-answered g c =
    let text = c.in-Err-TooMany.ensures.reading in
    let reads = rw c.in-Err-TooMany.field-0-is at text.2 in
    (text.0, text.1, λ m is built. answer [] (stage.bad_input built _ reads (ap (λ n. status.BadInput (error.TooMany n)) c.in-Err-TooMany.at-is) refl) (c.unchanged.ensures (g.K.Sink.held c.args.out.now)))
