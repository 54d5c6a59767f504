-- The canonical text of an expression, with the fewest parentheses.
use Rattle.std.specs.Prelude.{ℕ, ℤ, pos, int_lt, nat_le, Bool, true, false, if◌then◌else◌, List, [], ◌∷◌, codes}
use Rattle.std.specs.Fmt.{signed_decimal}
use Rattle.res_ast.specs.declared.expression.BinOp.{BinOp}
use Rattle.res_ast.specs.declared.expression.BinOp.TheVariants as op
use Rattle.res_ast.specs.declared.expression.Expr.{Expr}
use Rattle.res_ast.specs.declared.expression.Form.{Form}
use Rattle.res_ast.specs.declared.expression.Form.TheOpen.{Form-F, Expr-F}
use Rattle.res_ast.specs.declared.expression.Form.TheFolds.{fold-Expr, fold-Form}
use Rattle.res_printer.specs.Pieces.{Piece, closes, comma, dotted, opens, qualified, row, says, separated}

-- An expression as it is written where its own level may stand, and whether it begins with a minus sign.
pub record Written : Type 0 where
  pub level : ℕ
  pub negative : Bool
  pub text : Piece

-- ---- levels, from the weakest operator to the operands: 0 implies, 1 or, 2 and, 3 not and comparisons, 4 o, 5 sums,
-- 6 products, 7 minus signs and literals, 8 other operands

abbrev pub plain : ℕ → Piece → Written
plain level text = record { level = level; negative = false; text = text }

abbrev pub operand : Piece → Written
operand text = plain 8 text

abbrev pub in_parentheses : Piece → Piece
in_parentheses text = row (opens ∷ text ∷ closes ∷ [])

-- where this level is asked for: in parentheses exactly if its own is below
abbrev pub at_level : ℕ → Written → Piece
at_level level e = if nat_le level e.level then e.text else in_parentheses e.text

-- ---- operators

-- the levels of an operator, of its left and of its right operand, and its token
pub record Operator : Type 0 where
  pub level : ℕ
  pub left : ℕ
  pub right : ℕ
  pub token : List ℕ

-- Implications group to the right, comparisons do not group, all others group to the left.
abbrev pub operator : BinOp → Operator
operator op.Implies = record { level = 0; left = 1; right = 0; token = codes "implies" }
operator op.Or = record { level = 1; left = 1; right = 2; token = codes "or" }
operator op.And = record { level = 2; left = 2; right = 3; token = codes "and" }
operator op.Eq = record { level = 3; left = 4; right = 4; token = codes "=" }
operator op.NotEq = record { level = 3; left = 4; right = 4; token = codes "/=" }
operator op.Less = record { level = 3; left = 4; right = 4; token = codes "<" }
operator op.LessEq = record { level = 3; left = 4; right = 4; token = codes "<=" }
operator op.Greater = record { level = 3; left = 4; right = 4; token = codes ">" }
operator op.GreaterEq = record { level = 3; left = 4; right = 4; token = codes ">=" }
operator op.Cat = record { level = 4; left = 4; right = 5; token = codes "o" }
operator op.Add = record { level = 5; left = 5; right = 6; token = codes "+" }
operator op.Sub = record { level = 5; left = 5; right = 6; token = codes "-" }
operator op.Mul = record { level = 6; left = 6; right = 7; token = codes "*" }
operator op.Div = record { level = 6; left = 6; right = 7; token = codes "div" }
operator op.Mod = record { level = 6; left = 6; right = 7; token = codes "mod" }

abbrev pub between : ℕ → Written → List ℕ → ℕ → Written → Piece
between left x token right y = row (at_level left x ∷ says token ∷ at_level right y ∷ [])

abbrev pub binary : Operator → Written → Written → Written
binary o x y = plain o.level (between o.left x o.token o.right y)

abbrev pub negation : Written → Written
negation e = plain 3 (row (says (codes "not") ∷ at_level 3 e ∷ []))

-- ---- minus signs and literals

-- What begins with a minus sign itself needs no parentheses after one. A literal needs them: the sign would be its own.
abbrev pub after_minus : Written → Piece
after_minus e = if e.negative then e.text else at_level 8 e

abbrev pub minus : Written → Written
minus e = record { level = 7; negative = true; text = row (says (codes "-") ∷ after_minus e ∷ []) }

-- No space stands after the sign of a literal.
abbrev pub literal : ℤ → Written
literal n = record { level = 7; negative = int_lt n (pos 0); text = says (signed_decimal n) }

-- ---- other operands

abbrev pub truth : Bool → Written
truth true = operand (says (codes "true"))
truth false = operand (says (codes "false"))

abbrev pub old : List ℕ → Piece
old name = row (says (codes "#") ∷ says name ∷ [])

abbrev pub old_dot : List ℕ → List ℕ → Piece
old_dot name part = row (says (codes "#") ∷ dotted name part ∷ [])

abbrev pub listed : List Written → Piece
listed es = separated comma (λ e. e.text) es

abbrev pub arguments : List Written → Piece
arguments es = row (opens ∷ listed es ∷ closes ∷ [])

abbrev pub initial : List ℕ → Written → Piece
initial name x = row (dotted name (codes "Is_Initial") ∷ in_parentheses x.text ∷ [])

abbrev pub enclosed : List ℕ → Written → List ℕ → Piece
enclosed before e behind = row (says before ∷ at_level 4 e ∷ says behind ∷ [])

-- ---- expressions

abbrev pub form_step : Form-F Written Written → Written
form_step (Form-F.Int n) = literal n
form_step (Form-F.Truth b) = truth b
form_step Form-F.MinInt = operand (says (codes "min_int"))
form_step Form-F.MaxInt = operand (says (codes "max_int"))
form_step (Form-F.Word name) = operand (says name)
form_step (Form-F.Old name) = operand (old name)
form_step (Form-F.Dot name part) = operand (dotted name part)
form_step (Form-F.OldDot name part) = operand (old_dot name part)
form_step (Form-F.Call facility name args) = operand (row (qualified facility name ∷ arguments args ∷ []))
form_step (Form-F.Initial name x) = operand (initial name x)
form_step (Form-F.Not x) = negation x
form_step (Form-F.Minus x) = minus x
form_step (Form-F.Binary op x y) = binary (operator op) x y
form_step Form-F.Empty = operand (says (codes "Empty_String"))
form_step (Form-F.Single x) = operand (enclosed (codes "<") x (codes ">"))
form_step (Form-F.Bars x) = operand (enclosed (codes "|") x (codes "|"))
form_step (Form-F.Tuple parts) = operand (arguments parts)

-- An expression is written as its form is.
abbrev pub expr_step : Expr-F Written Written → Written
expr_step e = e.form

abbrev pub written : Expr → Written
written = fold-Expr Written Written form_step expr_step

abbrev pub written_form : Form → Written
written_form = fold-Form Written Written form_step expr_step

abbrev pub expression : Expr → Piece
expression e = (written e).text
