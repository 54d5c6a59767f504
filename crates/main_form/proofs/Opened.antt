-- What is seen of nodes with lists of parts.
use Rattle.std.proofs.Common.{◌≡◌, ◌∙◌, sym, ap, ℕ, List, map, Option, Some}
use Rattle.res_ast.specs.declared.expression.Expr.{Expr}
use Rattle.res_ast.specs.declared.expression.Form.{Form}
use Rattle.res_ast.specs.declared.expression.Form.TheVariants as form
use Rattle.res_ast.specs.declared.expression.Form.TheOpen.{Form-F}
use Rattle.res_ast.specs.declared.expression.Form.TheViews.{roll-Form}
use Rattle.res_ast.specs.declared.expression.Form.TheFolds.{fold-roll-Form, map-Form}
use Rattle.res_ast.specs.declared.statement.Stmt.{Stmt}
use Rattle.res_ast.specs.declared.statement.Stmt.TheVariants as stmt
use Rattle.res_ast.specs.declared.statement.Stmt.TheOpen.{Stmt-F}
use Rattle.res_ast.specs.declared.statement.Stmt.TheFolds.{fold-roll-Stmt}
use Rattle.res_ast.specs.declared.procedure.Procedure.{Procedure}
use Rattle.main_form.specs.declared.expressions.Wanted.{Wanted}
use Rattle.main_form.specs.declared.expressions.Wanted.TheVariants as wanted
use Rattle.main_form.specs.declared.room.Room.{Room}
use Rattle.main_form.specs.Places.{Look, earlier, earliest, form_step, expr_step, form_look, look, expr_first, all_first, call_fits, stands, stmt_first_step, stmt_first, stmt_room_step, stmt_room, one_by_one, one_more}

module _ (main : Procedure) where
  form_rolled : (f : Form) (x : Form-F Form Expr) (at : ℕ) (w : Wanted) → f ≡ roll-Form x → (form_look main f at).first w ≡ (form_step main (map-Form Form Expr (ℕ → Look) Look (form_look main) (look main) x) at).first w
  form_rolled f x at w is =
      ap (λ g. (form_look main g at).first w) is
      ∙ ap (λ (h : ℕ → Look). (h at).first w) (fold-roll-Form (ℕ → Look) Look (form_step main) expr_step x)

  pub tuple_opened : (f : Form) (parts : List Expr) (at : ℕ) (w : Wanted) → f ≡ form.Tuple parts → earlier (Some at) (all_first (map (look main) parts)) ≡ (form_look main f at).first w
  tuple_opened f parts at w is = sym (form_rolled f (Form-F.Tuple parts) at w (is ∙ sym (form.rolls-Tuple parts)))

  pub call_opened : (f : Form) (facility : Option (List ℕ)) (name : List ℕ) (args : List Expr) (at : ℕ) (w : Wanted) → f ≡ form.Call facility name args → stands (call_fits facility name w) at (all_first (map (look main) args)) ≡ (form_look main f at).first w
  call_opened f facility name args at w is = sym (form_rolled f (Form-F.Call facility name args) at w (is ∙ sym (form.rolls-Call facility name args)))

  pub if_opened : (x : Stmt) (at : ℕ) (g : Expr) (a b : List Stmt) → x ≡ stmt.If at g a b → earlier (expr_first main g wanted.Program) (earlier (earliest (map (stmt_first main) a)) (earliest (map (stmt_first main) b))) ≡ stmt_first main x
  if_opened x at g a b is =
      sym (fold-roll-Stmt (Option ℕ) (stmt_first_step main) (Stmt-F.If at g a b))
      ∙ ap (stmt_first main) (stmt.rolls-If at g a b ∙ sym is)

pub if_counted : (x : Stmt) (at : ℕ) (g : Expr) (a b : List Stmt) (r : Room) → x ≡ stmt.If at g a b → one_by_one (map stmt_room b) (one_by_one (map stmt_room a) (one_more at r)) ≡ stmt_room x r
if_counted x at g a b r is =
    ap (λ (f : Room → Room). f r) (sym (fold-roll-Stmt (Room → Room) stmt_room_step (Stmt-F.If at g a b)))
    ∙ ap (λ y. stmt_room y r) (stmt.rolls-If at g a b ∙ sym is)
