use Rattle.std.proofs.Common.{◌∙◌, ap, map}
use Rattle.main_form.specs.Places.{one_by_one, stmt_room}
use Rattle.main_form.proofs.Opened.{if_counted}
use Rattle.main_form.proofs.statements.+count.Goals as goal

pub count_stmt-returns-in-If : goal.count_stmt-returns-in-If
count_stmt-returns-in-If t c =
    let r = c.args.room.now in
    let a = c.in-If.a in
    let b = c.in-If.b in
    c.count_stmts-in-If.ensures
    ∙ ap (λ xs. one_by_one (map stmt_room xs) c.count_stmts.new.room) c.as_slice-in-If.ensures
    ∙ ap (one_by_one (map stmt_room b)) (c.count_stmts.ensures ∙ ap (λ xs. one_by_one (map stmt_room xs) c.take-in-If.new.self) c.as_slice.ensures ∙ ap (one_by_one (map stmt_room a)) c.take-in-If.ensures)
    ∙ if_counted c.args.x.now c.in-If.at c.in-If.field-1 a b r c.in-If.is
