use Rattle.std.proofs.Common.{◌≡◌, ◌∙◌, ◌<◌, ◌≤◌, ℕ, get_or, List, Bool, Result, sym, subst, take, length, nat_lt, true, false, arith}
use Rattle.std.specs.List.{prefix_len}
use Rattle.identifiers.specs.Identifiers.{is_identifier, longest}
use Rattle.res_lexer.specs.declared.token.LexError.{LexError}
use Rattle.res_lexer.specs.declared.pieces.Piece as found
use Rattle.res_lexer.specs.Pieces.{first_passes, begins, is_blank, is_digit, comment, word, literal, bracket_comment_len, line_comment_len}
use Rattle.res_lexer.specs.Pieces as spec
use Rattle.res_lexer.specs.working.Found.{Answers}
use Rattle.res_lexer.proofs.Choices.{at_blank, at_line, at_bracket, at_word, at_literal, at_symbol}
use Rattle.res_lexer.proofs.Digits.{front_literal}
use Rattle.res_lexer.proofs.Lists.{first_is}
use Rattle.res_lexer.proofs.pieces.piece_at.Goals as goal

-- an answer for a piece is one for its equal
same_answer : (place : ℕ) (r : Result found.Piece LexError) (p q : spec.Piece) → q ≡ p → Answers place r p → Answers place r q
same_answer place r p q e h = subst (Answers place r) (sym e) h

no_blank : (rest : List ℕ) (r : Bool) → 0 < length rest → r ≡ is_blank (get_or rest 0 0) → r ≡ false → first_passes is_blank rest ≡ false
no_blank rest r some is fails = first_is is_blank rest some ∙ sym is ∙ fails

positive : (m n : ℕ) → m ≡ n → 0 < m → nat_lt 0 n ≡ true
positive m n is some = grind (arith, is, some)

none : (m n : ℕ) → m ≡ n → m ≤ 0 → nat_lt 0 n ≡ false
none m n is few = grind (arith, is, few)

pub returns-then-is_blank : goal.returns-then-is_blank
returns-then-is_blank c =
    at_blank c.args.at c.args.rest.now (first_is is_blank c.args.rest.now c.requires.some ∙ sym c.is_blank.ensures ∙ c.if-is_blank.true)

pub returns-then-starts_with : goal.returns-then-starts_with
returns-then-starts_with c =
    same_answer c.args.at c.comment.result _ _
    (at_line c.args.at c.args.rest.now (no_blank c.args.rest.now c.is_blank.result c.requires.some c.is_blank.ensures c.if-is_blank.false) (sym c.starts_with.ensures.value ∙ c.if-starts_with.true))
    (subst (λ n. Answers c.args.at c.comment.result (comment c.args.at (take n c.args.rest.now))) c.line_comment_len.ensures c.comment.ensures)

pub returns-then-starts_with-2 : goal.returns-then-starts_with-2
returns-then-starts_with-2 c =
    same_answer c.args.at c.bracket_comment.result _ _
    (at_bracket c.args.at c.args.rest.now (no_blank c.args.rest.now c.is_blank.result c.requires.some c.is_blank.ensures c.if-is_blank.false) (sym c.starts_with.ensures.value ∙ c.if-starts_with.false) (sym c.starts_with-2.ensures.value ∙ c.if-starts_with-2.true))
    c.bracket_comment.ensures

pub returns-then-name-gt0 : goal.returns-then-name-gt0
returns-then-name-gt0 c =
    let longest_is = c.identifier_len-name.ensures.longest in
    same_answer c.args.at c.word.result _ _
    (at_word c.args.at c.args.rest.now
    (record {
      blank = no_blank c.args.rest.now c.is_blank.result c.requires.some c.is_blank.ensures c.if-is_blank.false;
      line = sym c.starts_with.ensures.value ∙ c.if-starts_with.false;
      bracket = sym c.starts_with-2.ensures.value ∙ c.if-starts_with-2.false;
    })
    (positive c.identifier_len-name.result (longest is_identifier c.args.rest.now) longest_is c.if-name-gt0.true))
    (subst (λ n. Answers c.args.at c.word.result (word c.args.at (take n c.args.rest.now))) longest_is c.word.ensures)

pub literal-requires-clause-digits : goal.literal-requires-clause-digits
literal-requires-clause-digits c =
    let is = c.digits_len-digits.ensures in
    subst (λ n. spec.is_literal (take n c.args.rest.now) ≡ true) (sym is) (front_literal c.args.rest.now (subst (λ n. 0 < n) is c.if-digits-gt0.true))

pub returns-then-digits-gt0 : goal.returns-then-digits-gt0
returns-then-digits-gt0 c =
    let is = c.digits_len-digits.ensures in
    same_answer c.args.at c.literal.result _ _
    (at_literal c.args.at c.args.rest.now
    (record {
      blank = no_blank c.args.rest.now c.is_blank.result c.requires.some c.is_blank.ensures c.if-is_blank.false;
      line = sym c.starts_with.ensures.value ∙ c.if-starts_with.false;
      bracket = sym c.starts_with-2.ensures.value ∙ c.if-starts_with-2.false;
    })
    (none c.identifier_len-name.result (longest is_identifier c.args.rest.now) c.identifier_len-name.ensures.longest c.if-name-gt0.false)
    (positive c.digits_len-digits.result (prefix_len is_digit c.args.rest.now) is c.if-digits-gt0.true))
    (subst (λ n. Answers c.args.at c.literal.result (literal c.args.at (take n c.args.rest.now))) is c.literal.ensures)

pub returns : goal.returns
returns c =
    same_answer c.args.at c.symbol.result _ _
    (at_symbol c.args.at c.args.rest.now
    (record {
      blank = no_blank c.args.rest.now c.is_blank.result c.requires.some c.is_blank.ensures c.if-is_blank.false;
      line = sym c.starts_with.ensures.value ∙ c.if-starts_with.false;
      bracket = sym c.starts_with-2.ensures.value ∙ c.if-starts_with-2.false;
    })
    (none c.identifier_len-name.result (longest is_identifier c.args.rest.now) c.identifier_len-name.ensures.longest c.if-name-gt0.false)
    (none c.digits_len-digits.result (prefix_len is_digit c.args.rest.now) c.digits_len-digits.ensures c.if-digits-gt0.false))
    c.symbol.ensures
