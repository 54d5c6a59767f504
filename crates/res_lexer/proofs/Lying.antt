-- A piece lies inside the text, has a byte at least, and is what its bytes mean.
use Rattle.std.proofs.Common.{◌≡◌, ℕ, ◌+◌, ◌-◌, ◌<◌, ◌≤◌, Bool, true, false, eqb, nat_lt, nat_le, ◌==◌, if◌then◌else◌, not, List, [], ◌∷◌, length, drop, take, Option, Some, None, option_map, codes, slice_get, pos, refl, sym, subst, ⊎_elim, one-add, length-drop, length-take-le, arith}
use Rattle.std.proofs.lemmas.Bool.{cases_Bool, true≢false, and_parts, eqb-true}
use Rattle.std.proofs.lemmas.List.Sums.{prefix_len-le-length}
use Rattle.std.specs.List.{list_all, prefix_len}
use Rattle.std.specs.Str.Lossy.{utf8_valid_len}
use Rattle.std.specs.Str.Parse.{digits_value}
use Rattle.identifiers.specs.Identifiers.{is_identifier, longest}
use Rattle.identifiers.specs.Laws.{Stands}
use Rattle.res_lexer.specs.declared.token.TokenKind.TheVariants.{Word, Literal, Symbol}
use Rattle.res_lexer.specs.declared.token.LexError.TheVariants.{BadByte, LongName, BigLiteral}
use Rattle.res_lexer.specs.Pieces as piece
use Rattle.res_lexer.specs.Pieces.{Piece, Gap, Breach, piece_at, first_passes, begins, is_blank, is_digit, is_literal, comment, bracket_comment, bracket_comment_len, before_closing, line_comment_len, word, literal, symbol_among, symbol_at, symbols, most_name_bytes, greatest_literal}
use Rattle.res_lexer.specs.Tokens.{Means}
use Rattle.res_lexer.proofs.Choices.{IsDense, at_blank, at_line, at_bracket, at_word, at_literal, at_symbol}
use Rattle.res_lexer.proofs.Digits.{front_literal}
use Rattle.res_lexer.proofs.Symbols.{begins-take, begins-length, closing_within, symbol_start}

abbrev pub PieceLies : List ℕ → Piece → Type 0
PieceLies rest (Gap n) = (0 < n) × (n ≤ length rest)
PieceLies rest (piece.Stands n kind) = (0 < n) × (n ≤ length rest) × Means kind (take n rest)
PieceLies rest (Breach e) = Unit {0}

-- either way of a test
by_test : (rest : List ℕ) (b : Bool) (p q : Piece) → (b ≡ true → PieceLies rest p) → (b ≡ false → PieceLies rest q) → PieceLies rest (if b then p else q)
by_test rest true p q h g = h refl
by_test rest false p q h g = g refl

blank_lies : (rest : List ℕ) → first_passes is_blank rest ≡ true → PieceLies rest (Gap 1)
blank_lies [] h = absurd (true≢false (sym h))
blank_lies (b ∷ bs) h = (omega arith, omega arith)

comment_lies : (place n : ℕ) (rest : List ℕ) → 0 < n → n ≤ length rest → PieceLies rest (comment place (take n rest))
comment_lies place n rest some fits =
    let long = length-take-le n rest fits in
    by_test rest (utf8_valid_len (take n rest) == length (take n rest)) (Gap (length (take n rest))) (Breach (BadByte (place + utf8_valid_len (take n rest))))
    (λ yes'. (omega (arith, some, long), omega (arith, fits, long)))
    (λ no'. tt)

line_len : (rest : List ℕ) → begins (codes "--") rest ≡ true → 0 < line_comment_len rest
line_len [] h = absurd (true≢false (sym h))
line_len (b ∷ bs) h =
    let is : 45 ≡ b = eqb-true 45 b (and_parts (eqb 45 b) (begins (codes "-") bs) h).0 in
    subst (λ x. 0 < line_comment_len (x ∷ bs)) is (rw one-add (omega arith))

line_lies : (place : ℕ) (rest : List ℕ) → begins (codes "--") rest ≡ true → PieceLies rest (comment place (take (line_comment_len rest) rest))
line_lies place rest h =
    comment_lies place (line_comment_len rest) rest (line_len rest h) (prefix_len-le-length (λ b. not (b == 10)) rest)

bracket_lies : (place : ℕ) (rest : List ℕ) → begins (codes "(*") rest ≡ true → PieceLies rest (bracket_comment place rest (bracket_comment_len rest))
bracket_lies place rest h = closed (before_closing (drop 2 rest)) refl
  where
    closed : (o : Option ℕ) → before_closing (drop 2 rest) ≡ o → PieceLies rest (bracket_comment place rest (option_map (λ n. 2 + n + 2) o))
    closed None so = tt
    closed (Some n) so =
        comment_lies place (2 + n + 2) rest (omega arith) (omega (arith, closing_within (drop 2 rest) n so, length-drop 2 rest, begins-length (codes "(*") rest h))

small : (m n : ℕ) → nat_le m n ≡ true → m ≤ n
small m n h = grind (arith, h)

word_lies : Stands → (place : ℕ) (rest : List ℕ) → 0 < longest is_identifier rest → PieceLies rest (word place (take (longest is_identifier rest) rest))
word_lies law place rest some =
    let stands = law rest some in
    let n : ℕ = longest is_identifier rest in
    let long : length (take n rest) ≡ n = length-take-le n rest stands.1 in
    by_test rest (nat_le (length (take n rest)) most_name_bytes) (piece.Stands (length (take n rest)) (Word (take n rest))) (Breach (LongName place))
    (λ short. (
      omega (arith, some, long),
      omega (arith, stands.1, long),
      subst (λ m. Means (Word (take n rest)) (take m rest)) (sym long) (stands.0, refl, small _ _ short),
    ))
    (λ long'. tt)

literal_lies : (place : ℕ) (rest : List ℕ) → 0 < prefix_len is_digit rest → PieceLies rest (literal place (take (prefix_len is_digit rest) rest))
literal_lies place rest some =
    let n : ℕ = prefix_len is_digit rest in
    let fits = prefix_len-le-length is_digit rest in
    let long : length (take n rest) ≡ n = length-take-le n rest fits in
    by_test rest (nat_le (digits_value 10 (take n rest)) greatest_literal) (piece.Stands (length (take n rest)) (Literal (pos (digits_value 10 (take n rest))))) (Breach (BigLiteral place))
    (λ few. (
      omega (arith, some, long),
      omega (arith, fits, long),
      subst (λ m. Means (Literal (pos (digits_value 10 (take n rest)))) (take m rest)) (sym long) (front_literal rest some, refl, small _ _ few),
    ))
    (λ many. tt)

abbrev has_bytes : List ℕ → Bool
has_bytes [] = false
has_bytes (b ∷ bs) = true

some_bytes : (text : List ℕ) → has_bytes text ≡ true → 0 < length text
some_bytes [] h = absurd (true≢false (sym h))
some_bytes (b ∷ bs) h = omega arith

-- rows of the table from a number on
abbrev Rows : ℕ → List (List ℕ) → Type 0
Rows number [] = Unit {0}
Rows number (s ∷ ss) = (slice_get symbols (number - 1) ≡ Some s) × Rows (number + 1) ss

among_lies : (number : ℕ) (table : List (List ℕ)) (place : ℕ) (rest : List ℕ) → 0 < number → Rows number table → list_all has_bytes table ≡ true → PieceLies rest (symbol_among number table place rest)
among_lies number [] place rest counted rows some = tt
among_lies number (s ∷ table) place rest counted rows some =
    let parts = and_parts (has_bytes s) (list_all has_bytes table) some in
    let later = among_lies (number + 1) table place rest (omega arith) rows.1 parts.1 in
    by_test rest (begins s rest) (piece.Stands (length s) (Symbol number)) (symbol_among (number + 1) table place rest)
    (λ here. (
      some_bytes s parts.0,
      begins-length s rest here,
      (counted, subst (λ text. slice_get symbols (number - 1) ≡ Some text) (sym (begins-take s rest here)) rows.0),
    ))
    (λ not_here. later)

symbol_lies : (place : ℕ) (rest : List ℕ) → PieceLies rest (symbol_at place rest)
symbol_lies place rest =
    subst (PieceLies rest) (sym (symbol_start place rest)) (among_lies 1 symbols place rest (omega arith) rows refl)
  where
    rows : Rows 1 symbols
    rows = (refl, (refl, (refl, (refl, (refl, (refl, (refl, (refl, (refl, (refl, (refl, (refl, (refl, (refl, (refl, (refl, (refl, (refl, (refl, tt)))))))))))))))))))

above : (n : ℕ) → nat_lt 0 n ≡ true → 0 < n
above n h = grind (arith, h)

pub piece_lies : Stands → (place : ℕ) (rest : List ℕ) → PieceLies rest (piece_at place rest)
piece_lies law place rest =
    ⊎_elim
    (λ blank. subst (PieceLies rest) (sym (at_blank place rest blank)) (blank_lies rest blank))
    (λ blank. ⊎_elim
    (λ line. subst (PieceLies rest) (sym (at_line place rest blank line)) (line_lies place rest line))
    (λ line. ⊎_elim
    (λ bracket. subst (PieceLies rest) (sym (at_bracket place rest blank line bracket)) (bracket_lies place rest bracket))
    (λ bracket. let dense : IsDense rest = record { blank = blank; line = line; bracket = bracket } in ⊎_elim
    (λ name. subst (PieceLies rest) (sym (at_word place rest dense name)) (word_lies law place rest (above _ name)))
    (λ name. ⊎_elim
    (λ digits. subst (PieceLies rest) (sym (at_literal place rest dense name digits)) (literal_lies place rest (above _ digits)))
    (λ digits. subst (PieceLies rest) (sym (at_symbol place rest dense name digits)) (symbol_lies place rest))
    (cases_Bool (nat_lt 0 (prefix_len is_digit rest))))
    (cases_Bool (nat_lt 0 (longest is_identifier rest))))
    (cases_Bool (begins (codes "(*") rest)))
    (cases_Bool (begins (codes "--") rest)))
    (cases_Bool (first_passes is_blank rest))
