use Rattle.std.proofs.Common.{◌∙◌, ap, map}
use Rattle.main_form.specs.Places.{earlier, earliest, expr_first, stmt_first}
use Rattle.main_form.specs.declared.expressions.Wanted.TheVariants as wanted
use Rattle.main_form.proofs.Opened.{if_opened}
use Rattle.main_form.proofs.statements.+statement.Goals as goal

pub stmt_first-returns-in-If : goal.stmt_first-returns-in-If
stmt_first-returns-in-If t c =
    let main = c.args.main.now in
    let guard = expr_first main c.in-If.guard wanted.Program in
    let a = c.in-If.a in
    let b = c.in-If.b in
    let first = c.stmts_first.ensures ∙ ap (λ xs. earliest (map (stmt_first main) xs)) c.as_slice-in-If.ensures in
    let second = c.stmts_first-in-If.ensures ∙ ap (λ xs. earliest (map (stmt_first main) xs)) c.as_slice-in-If-2.ensures in
    c.earlier.ensures
    ∙ ap (λ o. earlier o c.earlier-blocks.result) c.expr_first.ensures
    ∙ ap (earlier guard) (c.earlier-blocks.ensures ∙ ap (λ o. earlier o c.stmts_first-in-If.result) first ∙ ap (earlier (earliest (map (stmt_first main) a))) second)
    ∙ if_opened main c.args.x.now c.in-If.field-0 c.in-If.guard a b c.in-If.is
