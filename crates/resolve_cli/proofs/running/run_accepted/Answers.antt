use Rattle.std.proofs.Common.{refl, inr}
use Rattle.stack_machine.specs.declared.image.Image.{Image}
use Rattle.main_vcs.specs.Linking.{main_of}
use Rattle.resolve_cli.specs.declared.status.Status.TheVariants as status
use Rattle.resolve_cli.specs.Answer as stage
use Rattle.resolve_cli.specs.Answer.{ModuleAnswer}
use Rattle.resolve_cli.proofs.Right.{RunLaws, built, has_main, image_goes_on, same_image}
use Rattle.resolve_cli.proofs.Stages.{nothing_known, nothing_written}
use Rattle.resolve_cli.proofs.running.run_accepted.Goals as goal

pub returns-in_default-clause-answered : goal.returns-in_default-clause-answered
returns-in_default-clause-answered g c =
    let held = g.K.Sink.held c.args.out.now in
    nothing_known (ModuleAnswer c.args.m.now c.args.steps) (g.S.Source.left c.args.input.now) status.NoMemory held (inr (inr refl)) (c.unchanged.ensures held)

pub run_on_input-requires-clause-main : goal.run_on_input-requires-clause-main
run_on_input-requires-clause-main g c = has_main c.args.m.now c.in-Ok-compile.image (same_image c.args.m.now c.in-Ok.linked c.in-Ok.ensures.link c.in-Ok-compile.image (c.in-Ok-compile.ensures.code (main_of c.args.m.now) c.in-Ok.ensures.formed))

pub run_on_input-requires-clause-never_stuck : goal.run_on_input-requires-clause-never_stuck
run_on_input-requires-clause-never_stuck g c =
    let laws : RunLaws = record { valid = c.proved_is_valid.ensures; sound = c.conditions_are_sound.ensures; formed = c.modules_are_formed.ensures; simulates = c.code_simulates.ensures } in
    image_goes_on laws c.args.m.now c.requires.form c.requires.accepted c.in-Ok-compile.image (same_image c.args.m.now c.in-Ok.linked c.in-Ok.ensures.link c.in-Ok-compile.image (c.in-Ok-compile.ensures.code (main_of c.args.m.now) c.in-Ok.ensures.formed))

pub returns-in-Ok-compile-clause-answered : goal.returns-in-Ok-compile-clause-answered
returns-in-Ok-compile-clause-answered g c =
    let m = c.args.m.now in
    let image : Image = c.in-Ok-compile.image in
    let is = same_image m c.in-Ok.linked c.in-Ok.ensures.link image (c.in-Ok-compile.ensures.code (main_of m) c.in-Ok.ensures.formed) in
    let text = c.run_on_input.ensures.answered in
    (text.0, text.1, text.2 m is (built m image is c.requires.accepted c.in-Ok-compile.ensures.few))

pub returns-in-Err-CodeTooLong-clause-answered : goal.returns-in-Err-CodeTooLong-clause-answered
returns-in-Err-CodeTooLong-clause-answered g c =
    let m = c.args.m.now in
    let held = g.K.Sink.held c.args.out.now in
    let long = rw c.in-Err-CodeTooLong.field-0-is at c.in-Err-CodeTooLong.ensures.too_long in
    nothing_written (ModuleAnswer m c.args.steps) (g.S.Source.left c.args.input.now) (status.LinkRefused _) held (λ input. stage.too_long c.requires.accepted (long (main_of m) c.in-Ok.ensures.formed) refl refl) (c.unchanged.ensures held)

pub returns-clause-answered : goal.returns-clause-answered
returns-clause-answered g c =
    let held = g.K.Sink.held c.args.out.now in
    nothing_known (ModuleAnswer c.args.m.now c.args.steps) (g.S.Source.left c.args.input.now) status.NoMemory held (inr (inr refl)) (c.unchanged.ensures held)
