-- What the actions of an expression build: trees on stacks, each from what was put there last.
-- Whatever a stack lacks is a default, so that every action does something on every stack.
use Rattle.std.specs.Prelude.{ℕ, ℤ, pos, negsuc, neg_ℤ, List, [], ◌∷◌, ◌++◌, Some, None}
use Rattle.res_ast.specs.declared.expression.BinOp.{BinOp}
use Rattle.res_ast.specs.declared.expression.Expr.{Expr}
use Rattle.res_ast.specs.declared.expression.Form.{Form}
use Rattle.res_ast.specs.declared.expression.Form.TheOpen.{Form-F}
use Rattle.res_ast.specs.declared.expression.Form.TheViews.{roll-Expr, roll-Form}
use Rattle.res_lexer.specs.declared.token.Token.{Token}
use Rattle.res_lexer.specs.declared.token.TokenKind.{TokenKind}
use Rattle.res_lexer.specs.declared.token.TokenKind.TheVariants as kind
use Rattle.res_grammar.specs.Classes.{word_of}
use Rattle.expr_parser.specs.declared.word.Word.{Word}
use Rattle.expr_parser.specs.declared.operands.Operands.{Operands}
use Rattle.expr_parser.specs.declared.action.ExprAction.{ExprAction}
use Rattle.expr_parser.specs.declared.action.ExprAction.TheVariants as action

-- ---- stacks, as lists from the top

abbrev pub first_or : {A : Type 0} → A → List A → A
first_or d [] = d
first_or d (x ∷ xs) = x

abbrev pub others : {A : Type 0} → List A → List A
others [] = []
others (x ∷ xs) = xs

-- one more item at the end of the list on top
abbrev pub added : {A : Type 0} → A → List (List A) → List (List A)
added x xss = (first_or [] xss ++ (x ∷ [])) ∷ others xss

-- ---- tokens

-- the value of a literal; others count as 0
abbrev pub value_of : TokenKind → ℤ
value_of (kind.Word name) = pos 0
value_of (kind.Literal n) = n
value_of (kind.Symbol n) = pos 0

-- a literal after a minus sign; no literal is below 0
abbrev pub negated : ℤ → ℤ
negated (pos n) = neg_ℤ (pos n)
negated (negsuc n) = pos 0

-- a token that is kept: its place and its bytes
abbrev pub kept : Token → Word
kept t = record { at = t.at; name = word_of t.kind }

-- ---- defaults

abbrev pub no_word : Word
no_word = record { at = 0; name = [] }

abbrev pub expression : ℕ → Form → Expr
expression at form = roll-Expr (record { at = at; form = form })

abbrev pub no_expr : Expr
no_expr = expression 0 (roll-Form Form-F.Empty)

abbrev pub no_operands : Operands
no_operands = record { words = []; exprs = []; lists = [] }

-- ---- what is on top

abbrev pub word : Operands → Word
word s = first_or no_word s.words

-- the word below it
abbrev pub word_before : Operands → Word
word_before s = first_or no_word (others s.words)

abbrev pub word_before_two : Operands → Word
word_before_two s = first_or no_word (others (others s.words))

abbrev pub expr : Operands → Expr
expr s = first_or no_expr s.exprs

abbrev pub expr_before : Operands → Expr
expr_before s = first_or no_expr (others s.exprs)

abbrev pub list : Operands → List Expr
list s = first_or [] s.lists

-- ---- what is taken off, and what is put on

abbrev pub without_word : Operands → Operands
without_word s = record s { words = others s.words }

abbrev pub without_expr : Operands → Operands
without_expr s = record s { exprs = others s.exprs }

abbrev pub without_list : Operands → Operands
without_list s = record s { lists = others s.lists }

abbrev pub with_word : Word → Operands → Operands
with_word w s = record s { words = w ∷ s.words }

abbrev pub put : ℕ → Form → Operands → Operands
put at form s = record s { exprs = expression at form ∷ s.exprs }

-- ---- the actions

abbrev pub open_list : Operands → Operands
open_list s = record s { lists = [] ∷ s.lists }

-- the expression goes to the end of the list
abbrev pub add_expr : Operands → Operands
add_expr s = record s { exprs = others s.exprs; lists = added (expr s) s.lists }

abbrev pub binary_of : BinOp → Operands → Operands
binary_of op s = put (word s).at (roll-Form (Form-F.Binary op (expr_before s) (expr s))) (without_expr (without_expr (without_word s)))

-- forms of one operand, which stand at their first word
abbrev pub not_of : Operands → Operands
not_of s = put (word s).at (roll-Form (Form-F.Not (expr s))) (without_expr (without_word s))

abbrev pub minus_of : Operands → Operands
minus_of s = put (word s).at (roll-Form (Form-F.Minus (expr s))) (without_expr (without_word s))

abbrev pub bars_of : Operands → Operands
bars_of s = put (word s).at (roll-Form (Form-F.Bars (expr s))) (without_expr (without_word s))

abbrev pub single_of : Operands → Operands
single_of s = put (word s).at (roll-Form (Form-F.Single (expr s))) (without_expr (without_word s))

abbrev pub initial_of : Operands → Operands
initial_of s = put (word s).at (roll-Form (Form-F.Initial (word s).name (expr s))) (without_expr (without_word s))

-- names
abbrev pub word_form : Operands → Operands
word_form s = put (word s).at (roll-Form (Form-F.Word (word s).name)) (without_word s)

abbrev pub old_form : Operands → Operands
old_form s = put (word_before s).at (roll-Form (Form-F.Old (word s).name)) (without_word (without_word s))

abbrev pub dot_form : Operands → Operands
dot_form s = put (word_before s).at (roll-Form (Form-F.Dot (word_before s).name (word s).name)) (without_word (without_word s))

abbrev pub old_dot_form : Token → Operands → Operands
old_dot_form last s = put (word_before s).at (roll-Form (Form-F.OldDot (word s).name (word_of last.kind))) (without_word (without_word s))

-- calls, by a name alone or of a facility
abbrev pub call_of : Operands → Operands
call_of s = put (word s).at (roll-Form (Form-F.Call None (word s).name (list s))) (without_list (without_word s))

abbrev pub facility_call_of : Operands → Operands
facility_call_of s = put (word_before s).at (roll-Form (Form-F.Call (Some (word_before s).name) (word s).name (list s))) (without_list (without_word (without_word s)))

abbrev pub tuple_of : Operands → Operands
tuple_of s = put (word s).at (roll-Form (Form-F.Tuple (list s))) (without_list (without_word s))

abbrev pub minus_literal_of : Token → Operands → Operands
minus_literal_of last s = put (word s).at (roll-Form (Form-F.Int (negated (value_of last.kind)))) (without_word s)

-- Each action, after the last token that was read.
abbrev pub act : ExprAction → Token → Operands → Operands
act action.Keep last s = with_word (kept last) s
act action.OpenList last s = open_list s
act action.AddExpr last s = add_expr s
act (action.Binary op) last s = binary_of op s
act action.Not last s = not_of s
act action.Minus last s = minus_of s
act action.Literal last s = put last.at (roll-Form (Form-F.Int (value_of last.kind))) s
act action.MinusLiteral last s = minus_literal_of last s
act (action.Truth b) last s = put last.at (roll-Form (Form-F.Truth b)) s
act action.MinInt last s = put last.at (roll-Form Form-F.MinInt) s
act action.MaxInt last s = put last.at (roll-Form Form-F.MaxInt) s
act action.EmptyString last s = put last.at (roll-Form Form-F.Empty) s
act action.Word last s = word_form s
act action.Old last s = old_form s
act action.Dot last s = dot_form s
act action.OldDot last s = old_dot_form last s
act action.Call last s = call_of s
act action.FacilityCall last s = facility_call_of s
act action.IsInitial last s = initial_of s
act action.Bars last s = bars_of s
act action.Single last s = single_of s
act action.Parentheses last s = without_word s
act action.Tuple last s = tuple_of s
act action.ResultEquals last s = with_word (kept last) (word_form s)
