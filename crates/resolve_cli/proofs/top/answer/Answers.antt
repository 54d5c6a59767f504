use Rattle.std.proofs.Common.{refl}
use Rattle.std.specs.Prelude.{map, string_bytes}
use Rattle.resolve_cli.specs.declared.status.Status.TheVariants as status
use Rattle.resolve_cli.specs.Answer as stage
use Rattle.resolve_cli.proofs.Stages.{words_alone}
use Rattle.resolve_cli.proofs.top.answer.Goals as goal

pub returns-in-None-clause-answered : goal.returns-in-None-clause-answered
returns-in-None-clause-answered g c =
    let held = g.K.Sink.held c.args.out.now in
    let shelf = c.args.shelf.now in
    words_alone (map string_bytes c.args.words.now) (g.F.Shelf.tells shelf) (g.F.Shelf.files shelf) (g.S.Source.left c.args.input.now) status.BadWords held (λ input. stage.no_reading c.in-None.ensures refl refl) (c.unchanged.ensures held)

pub returns-in-Some-Other-clause-answered : goal.returns-in-Some-Other-clause-answered
returns-in-Some-Other-clause-answered g c =
    let held = g.K.Sink.held c.args.out.now in
    let shelf = c.args.shelf.now in
    words_alone (map string_bytes c.args.words.now) (g.F.Shelf.tells shelf) (g.F.Shelf.files shelf) (g.S.Source.left c.args.input.now) status.NotBuilt held (λ input. stage.not_built (rw c.in-Some-Other.field-0-is at c.in-Some-Other.ensures) refl refl) (c.unchanged.ensures held)
