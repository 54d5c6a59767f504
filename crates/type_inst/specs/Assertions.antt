-- Assertions as terms, where each name means what is said of it.
use Rattle.std.specs.Prelude.{ℕ, pos, Bool, true, false, ◌&&◌, if◌then◌else◌, List, [], ◌∷◌, Option, Some, None, is_none, codes}
use Rattle.std.specs.Bool.{beq}
use Rattle.std.specs.List.{find}
use Rattle.std.specs.Option.{option_map, option_map_or}
use Rattle.std.specs.Str.{bytes_eq}
use Rattle.math_terms.specs.declared.term.Term.{Term}
use Rattle.math_terms.specs.declared.term.Term.TheOpen.{Term-F}
use Rattle.math_terms.specs.declared.term.Term.TheViews.{roll-Term}
use Rattle.res_ast.specs.declared.expression.BinOp.{BinOp}
use Rattle.res_ast.specs.declared.expression.BinOp.TheVariants as op
use Rattle.res_ast.specs.declared.expression.Expr.{Expr}
use Rattle.res_ast.specs.declared.expression.Form.{Form}
use Rattle.res_ast.specs.declared.expression.Form.TheOpen.{Form-F, Expr-F}
use Rattle.res_ast.specs.declared.expression.Form.TheFolds.{fold-Expr, fold-Form}
use Rattle.type_inst.specs.declared.assertion.Meaning.{Meaning}

-- What the names of an assertion mean: `x`, or `#x` where it is so; a part of it, `x.p` or `#x.p`; and which type formal a
-- name is.
pub record Names : Type 0 where
  pub word : Bool → List ℕ → Term
  pub part : Bool → List ℕ → List ℕ → Term
  pub formal : List ℕ → Option ℕ

-- what has no meaning
abbrev pub zero_term : Term
zero_term = roll-Term (Term-F.Num (pos 0))

-- ---- operators

-- `a /= b` is `not (a = b)`, and `a > b` and `a >= b` are `b < a` and `b <= a`.
abbrev pub binary : BinOp → Term → Term → Term
binary op.Add a b = roll-Term (Term-F.Add a b)
binary op.Sub a b = roll-Term (Term-F.Sub a b)
binary op.Mul a b = roll-Term (Term-F.Mul a b)
binary op.Div a b = roll-Term (Term-F.Div a b)
binary op.Mod a b = roll-Term (Term-F.Mod a b)
binary op.Cat a b = roll-Term (Term-F.Cat a b)
binary op.Eq a b = roll-Term (Term-F.Eq a b)
binary op.NotEq a b = roll-Term (Term-F.Not (roll-Term (Term-F.Eq a b)))
binary op.Less a b = roll-Term (Term-F.Less a b)
binary op.LessEq a b = roll-Term (Term-F.LessEq a b)
binary op.Greater a b = roll-Term (Term-F.Less b a)
binary op.GreaterEq a b = roll-Term (Term-F.LessEq b a)
binary op.And a b = roll-Term (Term-F.And a b)
binary op.Or a b = roll-Term (Term-F.Or a b)
binary op.Implies a b = roll-Term (Term-F.Implies a b)

-- ---- calls, and what is initial

unfoldable pub is_reverse : List ℕ → Bool
is_reverse name = bytes_eq name (codes "Reverse")

unfoldable pub is_between : List ℕ → Bool
is_between name = bytes_eq name (codes "Prt_Btwn")

-- A call by a name alone. One of an operation has no meaning.
abbrev pub call : List ℕ → List Term → Term
call name (s ∷ []) = if is_reverse name then roll-Term (Term-F.Reverse s) else zero_term
call name (i ∷ j ∷ s ∷ []) = if is_between name then roll-Term (Term-F.Part i j s) else zero_term
call name args = zero_term

-- Of a name that is no type formal 0 is initial.
abbrev pub initial : Option ℕ → Term → Term
initial (Some k) x = roll-Term (Term-F.Initial k x)
initial None x = roll-Term (Term-F.Eq x zero_term)

-- ---- assertions

abbrev pub form_step : Names → Form-F Term Term → Term
form_step names (Form-F.Int n) = roll-Term (Term-F.Num n)
form_step names (Form-F.Truth b) = roll-Term (Term-F.Truth b)
form_step names Form-F.MinInt = roll-Term Term-F.MinInt
form_step names Form-F.MaxInt = roll-Term Term-F.MaxInt
form_step names (Form-F.Word x) = names.word false x
form_step names (Form-F.Old x) = names.word true x
form_step names (Form-F.Dot x p) = names.part false x p
form_step names (Form-F.OldDot x p) = names.part true x p
form_step names (Form-F.Call None x args) = call x args
form_step names (Form-F.Call (Some facility) x args) = zero_term
form_step names (Form-F.Initial x a) = initial (names.formal x) a
form_step names (Form-F.Not a) = roll-Term (Term-F.Not a)
form_step names (Form-F.Minus a) = roll-Term (Term-F.Sub zero_term a)
form_step names (Form-F.Binary o a b) = binary o a b
form_step names Form-F.Empty = roll-Term Term-F.Empty
form_step names (Form-F.Single a) = roll-Term (Term-F.Single a)
form_step names (Form-F.Bars a) = roll-Term (Term-F.Len a)
form_step names (Form-F.Tuple parts) = roll-Term (Term-F.Tuple parts)

abbrev pub expr_step : Expr-F Term Term → Term
expr_step e = e.form

abbrev pub assertion : Names → Expr → Term
assertion names e = fold-Expr Term Term (form_step names) expr_step e

abbrev pub form_assertion : Names → Form → Term
form_assertion names f = fold-Form Term Term (form_step names) expr_step f

-- ---- names by lists

abbrev pub is_word : Bool → List ℕ → Meaning → Bool
is_word old name m = beq m.old old && is_none m.part && bytes_eq m.name name

abbrev pub is_part : Bool → List ℕ → List ℕ → Meaning → Bool
is_part old name part m = beq m.old old && option_map_or (bytes_eq part) m.part false && bytes_eq m.name name

-- the first that is written so; a name without one has no meaning
abbrev pub term_or_zero : Option Meaning → Term
term_or_zero None = zero_term
term_or_zero (Some m) = m.term

abbrev pub word_in : List Meaning → Bool → List ℕ → Term
word_in meanings old name = term_or_zero (find (is_word old name) meanings)

abbrev pub part_in : List Meaning → Bool → List ℕ → List ℕ → Term
part_in meanings old name part = term_or_zero (find (is_part old name part) meanings)

abbrev pub is_named : List ℕ → List ℕ × ℕ → Bool
is_named name p = bytes_eq p.0 name

abbrev pub number_in : List (List ℕ × ℕ) → List ℕ → Option ℕ
number_in types name = option_map (λ p. p.1) (find (is_named name) types)

abbrev pub names_in : List Meaning → List (List ℕ × ℕ) → Names
names_in meanings types = record { word = word_in meanings; part = part_in meanings; formal = number_in types }
