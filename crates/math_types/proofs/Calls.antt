-- Calls in assertions.
use Rattle.std.proofs.Common.{◌≡◌, ◌∙◌, sym, ap, ℕ, List, map, Option}
use Rattle.res_ast.specs.declared.expression.Expr.{Expr}
use Rattle.res_ast.specs.declared.expression.Form.{Form}
use Rattle.res_ast.specs.declared.expression.Form.TheFolds.{fold-roll-Form}
use Rattle.res_ast.specs.declared.expression.Form.TheOpen.{Form-F}
use Rattle.res_ast.specs.declared.expression.Form.TheVariants as form
use Rattle.math_types.specs.declared.known.Known.{Known}
use Rattle.math_types.specs.Expressions.{Checked, Formed, all, call, checked, expr_step, form_checked, form_step}

-- what a call gives
pub call_checked : (known : List Known) (types : List (List ℕ × ℕ)) (f : Form) (facility : Option (List ℕ)) (name : List ℕ) (args : List Expr)
    → f ≡ form.Call facility name args → form_checked known types f ≡ call facility name (all (map (checked known types) args))
call_checked known types f facility name args is =
    ap (form_checked known types) (is ∙ sym (form.rolls-Call facility name args))
    ∙ fold-roll-Form Formed Checked (form_step known types) expr_step (Form-F.Call facility name args)
