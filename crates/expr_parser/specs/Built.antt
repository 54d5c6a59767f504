-- What a derivation builds of its tokens, and what tokens are an expression.
use Rattle.std.specs.Prelude.{◌≡◌, ℕ, ◌+◌, ◌⊎◌, List, Some, None, take, drop}
use Rattle.ll_grammar.specs.Grammar.{Builder, built}
use Rattle.ll_grammar.specs.declared.form.Move.{Move}
use Rattle.res_ast.specs.declared.expression.Expr.{Expr}
use Rattle.res_lexer.specs.declared.token.Token.{Token}
use Rattle.res_lexer.specs.declared.token.TokenKind.TheVariants.{Symbol}
use Rattle.res_grammar.specs.Classes.{class_of}
use Rattle.res_grammar.specs.Expressions.{expression_table}
use Rattle.res_grammar.specs.Faults.{IsNoTextUpTo, IsTextUpTo}
use Rattle.res_grammar.specs.Language.{language_rules}
use Rattle.res_grammar.specs.Places.{place_of}
use Rattle.res_grammar.specs.declared.watches.Fault.{Fault}
use Rattle.res_grammar.specs.declared.watches.Fault.TheVariants as fault
use Rattle.expr_parser.specs.Actions.{act, first_or, no_expr, no_operands}
use Rattle.expr_parser.specs.Marks.{expr_action}
use Rattle.expr_parser.specs.declared.operands.Operands.{Operands}
use Rattle.expr_parser.specs.declared.syntax.SyntaxError.{SyntaxError}
use Rattle.expr_parser.specs.declared.syntax.SyntaxKind.{SyntaxKind}
use Rattle.expr_parser.specs.declared.syntax.SyntaxKind.TheVariants.{Expected, TooDeep, EndName, NoMemory}

-- how far a reading has come: the last token, and what has been built
pub record Stage (S : Type 0) : Type 0 where
  pub last : Token
  pub state : S

-- no token has been read
abbrev pub no_token : Token
no_token = record { at = 0; len = 0; kind = Symbol 0 }

abbrev pub act_by : ℕ → Token → Operands → Operands
act_by a last s = elim (expr_action a) as (λ o. Operands) [ None ↦ s | Some x ↦ act x last s ]

-- what builds an expression
abbrev pub expressions : Builder (Stage Operands) Token
expressions = record {
  class = λ t. class_of t.kind;
  take = λ t s. record s { last = t };
  act = λ a s. record s { state = act_by a s.last s.state };
}

abbrev pub expr_of : List Move → List Token → Expr
expr_of moves ts = first_or no_expr (built expressions moves ts (record { last = no_token; state = no_operands })).state.exprs

-- ---- reading an expression, from a token on

-- As long as an expression goes on with the tokens from one on, they come to the next, and are this expression.
pub record ReadsExpr (ts : List Token) (from : ℕ) (e : Expr) (next : ℕ) : Type 0 where
  pub count : ℕ
  pub moves : List Move
  pub text : IsTextUpTo language_rules expression_table.start (drop from ts) count moves
  pub builds : e ≡ expr_of moves (take count (drop from ts))
  pub goes : next ≡ from + count

abbrev pub kind_of : Fault → SyntaxKind
kind_of fault.Expected = Expected
kind_of fault.TooDeep = TooDeep
kind_of fault.EndName = EndName

-- The refusal of the token of this number, or of the end where there are not so many.
abbrev pub refusal_of : List Token → ℕ → Fault → ℕ → SyntaxError
refusal_of ts place why end = record { at = place_of ts place end; kind = kind_of why }

abbrev pub no_memory : SyntaxError
no_memory = record { at = 0; kind = NoMemory }

-- The tokens from one on are no expression as long as one goes on with them: one of them is refused, or the first with which
-- none goes on comes too early.
pub record RefusesExpr (ts : List Token) (from end : ℕ) (e : SyntaxError) : Type 0 where
  pub place : ℕ
  pub why : Fault
  pub refused : IsNoTextUpTo language_rules expression_table.start (drop from ts) place why
  pub is : e ≡ refusal_of (drop from ts) place why end

abbrev pub RefusesOrNoMemory : List Token → ℕ → ℕ → SyntaxError → Type 0
RefusesOrNoMemory ts from end e = RefusesExpr ts from end e ⊎ (e ≡ no_memory)
