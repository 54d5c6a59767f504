-- Laws of spelling, and how a file's refusals come from those of its tokens.
use Rattle.std.proofs.Common.{◌≡◌, ℕ, List, [], length, sym, ap, subst, ◌∙◌, refl}
use Rattle.std.specs.Prelude.{IfOk, IfErr, MatchResult, Result, Ok, Err}
use Rattle.res_ast.specs.declared.component.Component.{Component}
use Rattle.res_lexer.specs.Tokens.{AreTokens, Refuses}
use Rattle.res_lexer.specs.Tokens as lexer
use Rattle.res_lexer.specs.declared.token.Token.{Token}
use Rattle.res_lexer.specs.declared.token.LexError.{LexError}
use Rattle.res_lexer.specs.declared.token.LexError.TheVariants.{BadByte, OpenComment, LongName, BigLiteral, NoMemory}
use Rattle.ll_grammar.specs.declared.form.Move.{Move}
use Rattle.res_grammar.specs.Faults.{IsRefusedAt, IsTextBy, TextsAreNotRefused}
use Rattle.res_grammar.specs.Faults as faults
use Rattle.res_grammar.specs.Language.{language_rules, language_table}
use Rattle.res_grammar.specs.declared.watches.Fault.{Fault}
use Rattle.expr_parser.specs.Built.{refusal_of}
use Rattle.expr_parser.specs.declared.syntax.SyntaxError.{SyntaxError}
use Rattle.module_parser.specs.Spelling.{IsRefused, LexicalOrNoMemory, RefusesOrNoMemory, SpelledIsNotRefused, OneSpelling, Spells, TokensRefused, TokensRefusedOrNoMemory, TokensSpell, components_of, lexical}
use Rattle.module_parser.specs.declared.reading.ParseError.{ParseError}
use Rattle.module_parser.specs.declared.reading.ParseError.TheVariants as parse_error

-- ---- one answer

abbrev tokens_or : Result (List Token) LexError → List Token
tokens_or (Ok ts) = ts
tokens_or (Err e) = []

pub same_tokens : (bytes : List ℕ) (ts us : List Token) → AreTokens bytes ts → AreTokens bytes us → ts ≡ us
same_tokens bytes ts us a b = ap tokens_or (sym a ∙ b)

pub same_components : (ts : List Token) (cs ds : List Component) → TokensSpell ts cs → TokensSpell ts ds → cs ≡ ds
same_components ts cs ds a b =
    a.builds ∙ ap (λ ms. components_of ms ts) (b.text.read.only a.moves a.text.read.derives) ∙ sym b.builds

pub one_list : (bytes : List ℕ) (cs ds : List Component) → Spells bytes cs → Spells bytes ds → cs ≡ ds
one_list bytes cs ds a b =
    let P : List Token → Type 0 = λ ts. TokensSpell ts ds in
    same_components a.tokens cs ds a.spelled (subst P (same_tokens bytes b.tokens a.tokens b.are a.are) b.spelled)

pub not_refused : TextsAreNotRefused language_rules language_table.start → (bytes : List ℕ) (cs : List Component) (e : SyntaxError) → Spells bytes cs → IsRefused bytes e → ⊥
not_refused law bytes cs e a r =
    let P : List Token → Type 0 = λ ts. IsRefusedAt language_rules language_table.start ts r.refused.place r.refused.why in
    law a.tokens a.spelled.moves r.refused.place r.refused.why a.spelled.text (subst P (same_tokens bytes r.tokens a.tokens r.are a.are) r.refused.refused)

pub one_refusal : faults.OneRefusal language_rules language_table.start → (bytes : List ℕ) (d e : SyntaxError) → IsRefused bytes d → IsRefused bytes e → d ≡ e
one_refusal law bytes d e a b =
    let P : List Token → Type 0 = λ ts. TokensRefused ts (length bytes) e in
    let r : TokensRefused a.tokens (length bytes) e = subst P (same_tokens bytes b.tokens a.tokens b.are a.are) b.refused in
    let one = law a.tokens a.refused.place r.place a.refused.why r.why a.refused.refused r.refused in
    a.refused.is ∙ ap (λ n. refusal_of a.tokens n a.refused.why (length bytes)) one.0 ∙ ap (λ w. refusal_of a.tokens r.place w (length bytes)) one.1 ∙ sym r.is

-- ---- what is read

pub tokens_spell : (ts : List Token) (cs : List Component) (moves : List Move) → IsTextBy language_rules language_table.start moves ts → cs ≡ components_of moves ts → TokensSpell ts cs
tokens_spell ts cs moves text e = record { moves = moves; text = text; builds = e }

pub file_spells : (bytes : List ℕ) (ts : List Token) (cs : List Component) → AreTokens bytes ts → TokensSpell ts cs → Spells bytes cs
file_spells bytes ts cs are s = record { tokens = ts; are = are; spelled = s }

-- ---- refusals

pub tokens_refused : (ts : List Token) (place : ℕ) (why : Fault) (end : ℕ) (e : SyntaxError) → IsRefusedAt language_rules language_table.start ts place why → e ≡ refusal_of ts place why end → TokensRefused ts end e
tokens_refused ts place why end e r is = record { place = place; why = why; refused = r; is = is }

pub lexical_refuses : (bytes : List ℕ) (e : LexError) → lexer.RefusesOrNoMemory bytes e → LexicalOrNoMemory bytes (lexical e)
lexical_refuses bytes (BadByte at) r = r
lexical_refuses bytes (OpenComment at) r = r
lexical_refuses bytes (LongName at) r = r
lexical_refuses bytes (BigLiteral at) r = r
lexical_refuses bytes NoMemory r = tt

pub file_lexical : (bytes : List ℕ) (e : ParseError) → LexicalOrNoMemory bytes e → RefusesOrNoMemory bytes e
file_lexical bytes (parse_error.Lex e) r = r
file_lexical bytes (parse_error.Syntax e) r = absurd r
file_lexical bytes parse_error.NoMemory r = tt

pub file_refused : (bytes : List ℕ) (ts : List Token) (e : ParseError) → AreTokens bytes ts → TokensRefusedOrNoMemory ts (length bytes) e → RefusesOrNoMemory bytes e
file_refused bytes ts (parse_error.Lex e) are r = absurd r
file_refused bytes ts (parse_error.Syntax e) are r = record { tokens = ts; are = are; refused = r }
file_refused bytes ts parse_error.NoMemory are r = tt

abbrev is_ok : Result (List Token) LexError → Type 0
is_ok (Ok ts) = Unit {0}
is_ok (Err e) = ⊥

no_tokens : (bytes : List ℕ) (ts : List Token) (e : LexError) → AreTokens bytes ts → Refuses bytes e → ⊥
no_tokens bytes ts e a r = subst is_ok (sym a ∙ r) tt

spelled_is_read : SpelledIsNotRefused → (bytes : List ℕ) (cs : List Component) (e : ParseError) → Spells bytes cs → RefusesOrNoMemory bytes e → e ≡ parse_error.NoMemory
spelled_is_read law bytes cs (parse_error.Lex e) s r = absurd (no_tokens bytes s.tokens e s.are r)
spelled_is_read law bytes cs (parse_error.Syntax e) s r = absurd (law bytes cs e s r)
spelled_is_read law bytes cs parse_error.NoMemory s r = refl

pub only : OneSpelling → SpelledIsNotRefused → (bytes : List ℕ) (r : Result (List Component) ParseError) → IfOk r (λ cs. Spells bytes cs) → IfErr r (λ e. RefusesOrNoMemory bytes e) → (cs : List Component) → Spells bytes cs → MatchResult r (λ found. found ≡ cs) (λ e. e ≡ parse_error.NoMemory)
only one law bytes (Ok found) a b cs s = one bytes found cs a s
only one law bytes (Err e) a b cs s = spelled_is_read law bytes cs e s b
