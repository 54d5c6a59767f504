-- The rules of expressions in programs.
use Rattle.std.specs.Prelude.{ℕ, Bool, true, false, not, ◌&&◌, ◌||◌, if◌then◌else◌, List, [], ◌∷◌, ◌++◌, Option, None, Some, is_none}
use Rattle.std.specs.List.{flat_map}
use Rattle.res_ast.specs.declared.expression.BinOp.{BinOp}
use Rattle.res_ast.specs.declared.expression.BinOp.TheVariants as op
use Rattle.res_ast.specs.declared.expression.Expr.{Expr}
use Rattle.res_ast.specs.declared.expression.Form.TheOpen.{Form-F, Expr-F}
use Rattle.res_ast.specs.declared.expression.Form.TheFolds.{fold-Expr}
use Rattle.type_rules.specs.declared.error.ModeError.TheVariants.{OfType}
use Rattle.type_rules.specs.Breaches.{refuse}
use Rattle.type_rules.specs.Origins.{Origin, differ, is_no_scalar}
use Rattle.type_modes.specs.Calls.{Look, answer, call, call_changes}
use Rattle.type_modes.specs.Places.{Body, Holder, Spot, at}

-- ---- operands and operators

-- What an operator or an operand answers: where it answers nothing it is refused, after what is refused in its parts. What is refused
-- itself has no type, so that nothing above it is refused for it.
abbrev pub answering : Option Origin → List Look → ℕ → Look
answering o parts place = record {
  at = place;
  spot = None;
  origin = o;
  breaches = flat_map (λ p. p.breaches) parts ++ refuse (is_none o) (OfType place);
  changes = flat_map (λ p. p.changes) parts;
}

abbrev pub value : Origin → ℕ → Look
value o place = answering (Some o) [] place

-- what programs do not use
abbrev pub unused : List Look → ℕ → Look
unused parts place = answering None parts place

-- What stands at a place, or an Integer formal. A type that is not known is refused where it is written.
abbrev pub held_type : Bool → Option Holder → Option Origin
held_type is_constant None = if is_constant then Some Origin.Integer else None
held_type is_constant (Some h) = h.origin

abbrev pub operand : Body → Spot → Bool → ℕ → Look
operand b s is_constant place = record {
  at = place;
  spot = Some s;
  origin = held_type is_constant (at b s);
  breaches = refuse (is_none (at b s) && not is_constant) (OfType place);
  changes = [];
}

-- An operator on operands of one type answers another or the same.
abbrev pub unary : Origin → Option Origin → Option Origin
unary o a = if differ (Some o) a then None else Some o

abbrev pub taking : Origin → Origin → Option Origin → Option Origin → Option Origin
taking o answer a b = if differ (Some o) a || differ (Some o) b then None else Some answer

-- Two Integers or two Booleans are compared.
abbrev pub comparing : Option Origin → Option Origin → Option Origin
comparing a b = if is_no_scalar a || is_no_scalar b || differ a b then None else Some Origin.Boolean

abbrev pub binary : BinOp → Option Origin → Option Origin → Option Origin
binary op.Add a b = taking Origin.Integer Origin.Integer a b
binary op.Sub a b = taking Origin.Integer Origin.Integer a b
binary op.Mul a b = taking Origin.Integer Origin.Integer a b
binary op.Div a b = taking Origin.Integer Origin.Integer a b
binary op.Mod a b = taking Origin.Integer Origin.Integer a b
binary op.Cat a b = None
binary op.Eq a b = comparing a b
binary op.NotEq a b = comparing a b
binary op.Less a b = taking Origin.Integer Origin.Boolean a b
binary op.LessEq a b = taking Origin.Integer Origin.Boolean a b
binary op.Greater a b = taking Origin.Integer Origin.Boolean a b
binary op.GreaterEq a b = taking Origin.Integer Origin.Boolean a b
binary op.And a b = taking Origin.Boolean Origin.Boolean a b
binary op.Or a b = taking Origin.Boolean Origin.Boolean a b
binary op.Implies a b = None

-- ---- expressions

abbrev pub call_of : Body → Option (List ℕ) → List ℕ → List Look → ℕ → Look
call_of b facility name args place = record {
  at = place;
  spot = None;
  origin = answer (b.called facility name) args;
  breaches = call b true (b.called facility name) args place;
  changes = call_changes b (b.called facility name) args;
}

abbrev pub form_step : Body → Form-F (ℕ → Look) Look → ℕ → Look
form_step b (Form-F.Int n) place = value Origin.Integer place
form_step b (Form-F.Truth t) place = value Origin.Boolean place
form_step b Form-F.MinInt place = unused [] place
form_step b Form-F.MaxInt place = unused [] place
form_step b (Form-F.Word x) place = operand b (x, None) (b.constant x) place
form_step b (Form-F.Old x) place = unused [] place
form_step b (Form-F.Dot x f) place = operand b (x, Some f) false place
form_step b (Form-F.OldDot x f) place = unused [] place
form_step b (Form-F.Call facility x args) place = call_of b facility x args place
form_step b (Form-F.Initial x a) place = unused (a ∷ []) place
form_step b (Form-F.Not a) place = answering (unary Origin.Boolean a.origin) (a ∷ []) place
form_step b (Form-F.Minus a) place = answering (unary Origin.Integer a.origin) (a ∷ []) place
form_step b (Form-F.Binary o x y) place = answering (binary o x.origin y.origin) (x ∷ y ∷ []) place
form_step b Form-F.Empty place = unused [] place
form_step b (Form-F.Single a) place = unused (a ∷ []) place
form_step b (Form-F.Bars a) place = unused (a ∷ []) place
form_step b (Form-F.Tuple parts) place = unused parts place

abbrev pub expr_step : Expr-F (ℕ → Look) Look → Look
expr_step e = e.form e.at

abbrev pub look : Body → Expr → Look
look b e = fold-Expr (ℕ → Look) Look (form_step b) expr_step e
