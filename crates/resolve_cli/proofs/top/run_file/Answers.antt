use Rattle.std.proofs.Common.{◌≡◌, refl, subst, rules, inl, inr}
use Rattle.std.specs.Prelude.{IfOk, IsTrue, Some, None}
use Rattle.resolve_cli.specs.declared.status.Status.TheVariants as status
use Rattle.resolve_cli.specs.Answer.{FileAnswer}
use Rattle.resolve_cli.proofs.Stages.{NotThere, named_answered, shelf_too_long, words_answered, words_missing, words_run, words_unread}
use Rattle.resolve_cli.proofs.top.run_file.Goals as goal

pub returns-in-Ok-clause-shelf_counted : goal.returns-in-Ok-clause-shelf_counted
returns-in-Ok-clause-shelf_counted g c =
    record { never_falls = c.read.ensures.never_falls; told = λ e. absurd (c.run_bytes.ensures.no_shelf e) }

pub returns-in-Ok-clause-answered : goal.returns-in-Ok-clause-answered
returns-in-Ok-clause-answered g c =
    let shelf = c.args.shelf.now in
    let name = c.args.file.now in
    let bytes = c.as_slice.result.now in
    let holds : IsTrue (g.F.Shelf.tells shelf) → g.F.Shelf.files shelf name ≡ Some bytes = search rules in
    λ words says. words_answered words (g.F.Shelf.tells shelf) (g.F.Shelf.files shelf) (g.S.Source.left c.args.input.now) c.run_bytes.result (g.K.Sink.held c.args.out.now) (g.K.Sink.held c.run_bytes.new.out) name (Some bytes) (FileAnswer name bytes c.args.steps) holds (λ files held input. words_run words files name bytes c.args.steps input says held) c.run_bytes.ensures.answered

pub returns-in-Err-NotFound-clause-answered : goal.returns-in-Err-NotFound-clause-answered
returns-in-Err-NotFound-clause-answered g c =
    let shelf = c.args.shelf.now in
    let name = c.args.file.now in
    let held = g.K.Sink.held c.args.out.now in
    let left = g.S.Source.left c.args.input.now in
    let missing = λ (t : IsTrue (g.F.Shelf.tells shelf)). rw c.in-Err-NotFound.field-0-is at (c.in-Err-NotFound.ensures.answer t) in
    let named = subst (λ n. IfOk c.new.result (λ l. l ≡ n)) c.as_bytes.ensures.value c.new.ensures in
    λ words says. words_answered words (g.F.Shelf.tells shelf) (g.F.Shelf.files shelf) left c.not_found.result held held name None (NotThere name) missing (λ files none input. words_missing words files name c.args.steps input says none) (named_answered (λ l. status.NotFound l) (NotThere name) left held c.new.result c.not_found.result name c.not_found.ensures named (λ input. (refl, refl)) (c.unchanged.ensures held))

pub returns-in-Err-TooLong-clause-answered : goal.returns-in-Err-TooLong-clause-answered
returns-in-Err-TooLong-clause-answered g c =
    let shelf = c.args.shelf.now in
    let name = c.args.file.now in
    let held = g.K.Sink.held c.args.out.now in
    let named = subst (λ n. IfOk c.new-in-Err-TooLong.result (λ l. l ≡ n)) c.as_bytes-in-Err-TooLong.ensures.value c.new-in-Err-TooLong.ensures in
    λ words says. shelf_too_long words (g.F.Shelf.tells shelf) (g.F.Shelf.files shelf) (g.S.Source.left c.args.input.now) c.too_long.result held name c.args.steps c.new-in-Err-TooLong.result says (λ t. rw c.in-Err-TooLong.field-0-is at (c.in-Err-TooLong.ensures.answer t)) c.too_long.ensures named (c.unchanged.ensures held)

pub returns-in-Err-Failed-clause-answered : goal.returns-in-Err-Failed-clause-answered
returns-in-Err-Failed-clause-answered g c =
    let shelf = c.args.shelf.now in
    let held = g.K.Sink.held c.args.out.now in
    λ words says. words_unread words (g.F.Shelf.tells shelf) (g.F.Shelf.files shelf) (g.S.Source.left c.args.input.now) status.ShelfFault held (c.unchanged.ensures held) (inl refl)

pub returns-clause-answered : goal.returns-clause-answered
returns-clause-answered g c =
    let shelf = c.args.shelf.now in
    let held = g.K.Sink.held c.args.out.now in
    λ words says. words_unread words (g.F.Shelf.tells shelf) (g.F.Shelf.files shelf) (g.S.Source.left c.args.input.now) status.NoMemory held (c.unchanged.ensures held) (inr (inr refl))
