-- What a file spells: it has tokens, these have a derivation that the watches pass, and its actions build the components.
use Rattle.std.specs.Prelude.{◌≡◌, ℕ, List, length, Some, None}
use Rattle.ll_grammar.specs.Grammar.{Builder, built}
use Rattle.ll_grammar.specs.declared.form.Move.{Move}
use Rattle.res_ast.specs.declared.component.Component.{Component}
use Rattle.res_lexer.specs.Tokens.{AreTokens, Refuses}
use Rattle.res_lexer.specs.declared.token.Token.{Token}
use Rattle.res_lexer.specs.declared.token.LexError.{LexError}
use Rattle.res_lexer.specs.declared.token.LexError.TheVariants.{BadByte, OpenComment, LongName, BigLiteral, NoMemory}
use Rattle.res_grammar.specs.Classes.{class_of}
use Rattle.res_grammar.specs.Faults.{IsRefusedAt, IsTextBy}
use Rattle.res_grammar.specs.Language.{language_rules, language_table}
use Rattle.res_grammar.specs.declared.watches.Fault.{Fault}
use Rattle.expr_parser.specs.Built.{Stage, no_token, refusal_of}
use Rattle.expr_parser.specs.declared.syntax.SyntaxError.{SyntaxError}
use Rattle.module_parser.specs.Actions.{file_act}
use Rattle.module_parser.specs.Marks.{action_of}
use Rattle.module_parser.specs.Stacks.{outset}
use Rattle.module_parser.specs.declared.reading.ParseError.{ParseError}
use Rattle.module_parser.specs.declared.reading.ParseError.TheVariants as parse_error
use Rattle.module_parser.specs.declared.state.State.{State}

abbrev pub act_by : ℕ → Token → State → State
act_by a last s = elim (action_of a) as (λ o. State) [ None ↦ s | Some x ↦ file_act x last s ]

-- what builds the components of a file
abbrev pub files : Builder (Stage State) Token
files = record {
  class = λ t. class_of t.kind;
  take = λ t s. record s { last = t };
  act = λ a s. record s { state = act_by a s.last s.state };
}

abbrev pub components_of : List Move → List Token → List Component
components_of moves ts = (built files moves ts (record { last = no_token; state = outset })).state.components

-- The tokens spell these components.
pub record TokensSpell (ts : List Token) (cs : List Component) : Type 0 where
  pub moves : List Move
  pub text : IsTextBy language_rules language_table.start moves ts
  pub builds : cs ≡ components_of moves ts

-- The file spells these components.
pub record Spells (bytes : List ℕ) (cs : List Component) : Type 0 where
  pub tokens : List Token
  pub are : AreTokens bytes tokens
  pub spelled : TokensSpell tokens cs

-- The tokens are refused: at the first that is, or at the file's end, for a reason.
pub record TokensRefused (ts : List Token) (end : ℕ) (e : SyntaxError) : Type 0 where
  pub place : ℕ
  pub why : Fault
  pub refused : IsRefusedAt language_rules language_table.start ts place why
  pub is : e ≡ refusal_of ts place why end

-- The file has tokens, and these are refused.
pub record IsRefused (bytes : List ℕ) (e : SyntaxError) : Type 0 where
  pub tokens : List Token
  pub are : AreTokens bytes tokens
  pub refused : TokensRefused tokens (length bytes) e

-- Why tokens spell nothing, but for want of memory.
abbrev pub TokensRefusedOrNoMemory : List Token → ℕ → ParseError → Type 0
TokensRefusedOrNoMemory ts end (parse_error.Lex e) = ⊥
TokensRefusedOrNoMemory ts end (parse_error.Syntax e) = TokensRefused ts end e
TokensRefusedOrNoMemory ts end parse_error.NoMemory = Unit {0}

-- Why a file has no tokens, but for want of memory.
abbrev pub LexicalOrNoMemory : List ℕ → ParseError → Type 0
LexicalOrNoMemory bytes (parse_error.Lex e) = Refuses bytes e
LexicalOrNoMemory bytes (parse_error.Syntax e) = ⊥
LexicalOrNoMemory bytes parse_error.NoMemory = Unit {0}

-- Why a file spells nothing, but for want of memory.
abbrev pub RefusesOrNoMemory : List ℕ → ParseError → Type 0
RefusesOrNoMemory bytes (parse_error.Lex e) = Refuses bytes e
RefusesOrNoMemory bytes (parse_error.Syntax e) = IsRefused bytes e
RefusesOrNoMemory bytes parse_error.NoMemory = Unit {0}

-- the lexer's refusal as one of a file
abbrev pub lexical : LexError → ParseError
lexical (BadByte at) = parse_error.Lex (BadByte at)
lexical (OpenComment at) = parse_error.Lex (OpenComment at)
lexical (LongName at) = parse_error.Lex (LongName at)
lexical (BigLiteral at) = parse_error.Lex (BigLiteral at)
lexical NoMemory = parse_error.NoMemory

-- ---- laws

-- A file spells one list of components at most,
abbrev pub OneSpelling : Type 0
OneSpelling = (bytes : List ℕ) (cs ds : List Component) → Spells bytes cs → Spells bytes ds → cs ≡ ds

-- and none where it is refused.
abbrev pub SpelledIsNotRefused : Type 0
SpelledIsNotRefused = (bytes : List ℕ) (cs : List Component) (e : SyntaxError) → Spells bytes cs → IsRefused bytes e → ⊥

-- A file is refused at one place, for one reason.
abbrev pub OneRefusal : Type 0
OneRefusal = (bytes : List ℕ) (d e : SyntaxError) → IsRefused bytes d → IsRefused bytes e → d ≡ e
