-- A row of tokens that are apart is read as these tokens.
use Rattle.std.proofs.Common.{◌≡◌, ℕ, zero, suc, ◌+◌, ◌-◌, ◌<◌, ◌≤◌, Bool, true, false, cond, eqb, nat_lt, nat_le, not, ◌&&◌, if◌then◌else◌, List, [], ◌∷◌, ◌++◌, length, take, slice_get, Some, Ok, codes, decimal, pos, negsuc, refl, sym, ap, ◌∙◌, subst, length-append, arith}
use Rattle.std.proofs.Math.Seq.{take-append_seam, drop-append_seam}
use Rattle.std.proofs.lemmas.Bool.{and_parts, and_from, not-true, eqb-true, true≢false, false_from_ne_true}
use Rattle.std.proofs.lemmas.Bool.Decides.{nat_tests}
use Rattle.std.proofs.lemmas.Fmt.{decimal_is_IsNumeral}
use Rattle.std.proofs.lemmas.Option.{slice_get-get_or}
use Rattle.std.proofs.lemmas.Str.Parse.{digit_at}
use Rattle.std.specs.List.{list_all, prefix_len}
use Rattle.std.specs.Str.Parse.{AllDigits}
use Rattle.identifiers.specs.Identifiers.{is_identifier, is_letter, longest, NothingContinues}
use Rattle.identifiers.specs.Laws.{BeginsNone, EndEndsAll, Ends, EndsAll, PlainAreAscii, Stands}
use Rattle.res_lexer.specs.declared.token.Token.{Token}
use Rattle.res_lexer.specs.declared.token.TokenKind.{TokenKind}
use Rattle.res_lexer.specs.declared.token.TokenKind.TheVariants.{Word, Literal, Symbol}
use Rattle.res_lexer.specs.declared.token.LexError.TheVariants.{LongName, BigLiteral}
use Rattle.res_lexer.specs.Pieces as piece
use Rattle.res_lexer.specs.Pieces.{Gap, Breach, piece_at, first_passes, begins, is_blank, is_digit, word, literal, symbol_among, symbol_at, symbols, most_name_bytes, greatest_literal}
use Rattle.res_lexer.specs.Spaced.{AreApart, IsWritable, MayTouch, Row, placed_from, spaced, text_of}
use Rattle.res_lexer.specs.Tokens.{AreTokens, reading, reading_from, with_token}
use Rattle.res_lexer.proofs.Choices.{IsDense, at_blank, at_word, at_literal, at_symbol}
use Rattle.res_lexer.proofs.Readings.{one_piece}
use Rattle.res_lexer.proofs.Symbols.{symbol_start}

-- where identifiers begin and end, as the crate below says
pub record Laws : Type 0 where
  pub stands : Stands
  pub ends : Ends
  pub begins_none : BeginsNone
  pub ends_all : EndsAll
  pub end_ends_all : EndEndsAll
  pub plain : PlainAreAscii

-- nothing follows, or a blank
abbrev Stops : List ℕ → Type 0
Stops [] = Unit {0}
Stops (b ∷ bs) = is_blank b ≡ true

-- a byte with which no symbol and no comment goes on
record IsApart (b : ℕ) : Type 0 where
  equals : eqb 61 b ≡ false
  colon : eqb 58 b ≡ false
  star : eqb 42 b ≡ false
  dash : eqb 45 b ≡ false

blank_apart : (b : ℕ) → is_blank b ≡ true → IsApart b
blank_apart b h = record {
  equals = grind (arith, nat_tests);
  colon = grind (arith, nat_tests);
  star = grind (arith, nat_tests);
  dash = grind (arith, nat_tests);
}

digit_apart : (b : ℕ) → is_digit b ≡ true → IsApart b
digit_apart b h = record {
  equals = grind (arith, nat_tests);
  colon = grind (arith, nat_tests);
  star = grind (arith, nat_tests);
  dash = grind (arith, nat_tests);
}

-- nothing follows, or such a byte
abbrev EndsSymbol : List ℕ → Type 0
EndsSymbol [] = Unit {0}
EndsSymbol (b ∷ bs) = IsApart b

-- ---- blanks

blanks_passed : (place : ℕ) (blanks rest : List ℕ) → list_all is_blank blanks ≡ true → reading_from place 0 (blanks ++ rest) ≡ reading_from (place + length blanks) 0 rest
blanks_passed place [] rest h = let e : place ≡ place + 0 = omega arith in ap (λ p. reading_from p 0 rest) e
blanks_passed place (b ∷ blanks) rest h =
    let parts = and_parts (is_blank b) (list_all is_blank blanks) h in
    let e : (place + 1) + length blanks ≡ place + suc (length blanks) = omega arith in
    one_piece place (b ∷ (blanks ++ rest)) (Gap 1) (at_blank place (b ∷ (blanks ++ rest)) parts.0) (omega arith) (omega arith) (omega arith)
    ∙ blanks_passed (place + 1) blanks rest parts.1 ∙ ap (λ p. reading_from p 0 rest) e

-- ---- words

nothing_goes_on : Laws → (after : List ℕ) → Stops after → NothingContinues after
nothing_goes_on laws [] h = laws.end_ends_all
nothing_goes_on laws (b ∷ bs) h = laws.ends_all b bs (grind (arith, h, nat_tests)) (grind (arith, h, nat_tests))

name_begins : Laws → (b : ℕ) (bs : List ℕ) → 0 < longest is_identifier (b ∷ bs) → b < 128 → is_letter b ≡ false → ⊥
name_begins laws b bs some low other = omega (arith, some, laws.begins_none b bs low other)

name_dense : Laws → (rest : List ℕ) → 0 < longest is_identifier rest → IsDense rest
name_dense laws [] some = absurd (omega (arith, some, (laws.stands [] some).1))
name_dense laws (b ∷ bs) some = record {
  blank = false_from_ne_true (is_blank b) (λ h. name_begins laws b bs some (grind (arith, h, nat_tests)) (grind (arith, h, nat_tests)));
  line = false_from_ne_true (begins (codes "--") (b ∷ bs)) (λ h.
      let is : 45 ≡ b = eqb-true 45 b (and_parts (eqb 45 b) (begins (codes "-") bs) h).0 in
      name_begins laws b bs some (omega (arith, is)) (subst (λ x. is_letter x ≡ false) is refl));
  bracket = false_from_ne_true (begins (codes "(*") (b ∷ bs)) (λ h.
      let is : 40 ≡ b = eqb-true 40 b (and_parts (eqb 40 b) (begins (codes "*") bs) h).0 in
      name_begins laws b bs some (omega (arith, is)) (subst (λ x. is_letter x ≡ false) is refl));
}

name_long : Laws → (name : List ℕ) → is_identifier name ≡ true → 0 < length name
name_long laws [] is = absurd (true≢false (sym is ∙ laws.plain [] tt))
name_long laws (b ∷ bs) is = omega arith

word_there : Laws → (place : ℕ) (name after : List ℕ) → is_identifier name ≡ true → length name ≤ most_name_bytes → Stops after → piece_at place (name ++ after) ≡ piece.Stands (length name) (Word name)
word_there laws place name after is short stops =
    let len : longest is_identifier (name ++ after) ≡ length name = laws.ends name after is (nothing_goes_on laws after stops) in
    let some : 0 < longest is_identifier (name ++ after) = omega (arith, len, name_long laws name is) in
    let text = ap (λ n. take n (name ++ after)) len ∙ take-append_seam name after in
    let few : nat_le (length name) most_name_bytes ≡ true = grind (arith, short) in
    at_word place (name ++ after) (name_dense laws (name ++ after) some) (grind (arith, some)) ∙ ap (word place) text
    ∙ ap (λ b. if b then piece.Stands (length name) (Word name) else Breach (LongName place)) few

-- ---- literals

digit_range : (b : ℕ) → is_digit b ≡ true → (48 ≤ b) × (b ≤ 57)
digit_range b h = grind (arith, h, nat_tests)

all_digits : (ds : List ℕ) → AllDigits 10 ds → list_all is_digit ds ≡ true
all_digits [] h = refl
all_digits (d ∷ ds) h =
    let range = digit_at (d ∷ ds) 0 h (omega arith) in
    and_from (is_digit d) (list_all is_digit ds) (grind (arith, range.0, range.1)) (all_digits ds h.1)

front_digits : (ds after : List ℕ) → list_all is_digit ds ≡ true → Stops after → prefix_len is_digit (ds ++ after) ≡ length ds
front_digits [] [] h stops = refl
front_digits [] (b ∷ bs) h stops =
    let no : is_digit b ≡ false = grind (arith, stops, nat_tests) in ap (λ t. cond t (1 + prefix_len is_digit bs) 0) no
front_digits (d ∷ ds) after h stops =
    let parts = and_parts (is_digit d) (list_all is_digit ds) h in
    let more : 1 + prefix_len is_digit (ds ++ after) ≡ suc (length ds) = omega (arith, front_digits ds after parts.1 stops) in
    ap (λ t. cond t (1 + prefix_len is_digit (ds ++ after)) 0) parts.0 ∙ more

digits_dense : (ds after : List ℕ) → 0 < length ds → list_all is_digit ds ≡ true → IsDense (ds ++ after)
digits_dense [] after some h = absurd (omega (arith, some))
digits_dense (d ∷ ds) after some h =
    let digit = (and_parts (is_digit d) (list_all is_digit ds) h).0 in
    let range = digit_range d digit in record {
      blank = grind (arith, range.0, range.1, nat_tests);
      line = false_from_ne_true (begins (codes "--") (d ∷ (ds ++ after))) (λ g.
          omega (arith, range.0, eqb-true 45 d (and_parts (eqb 45 d) (begins (codes "-") (ds ++ after)) g).0));
      bracket = false_from_ne_true (begins (codes "(*") (d ∷ (ds ++ after))) (λ g.
          omega (arith, range.0, eqb-true 40 d (and_parts (eqb 40 d) (begins (codes "*") (ds ++ after)) g).0));
    }

digits_no_name : Laws → (ds after : List ℕ) → 0 < length ds → list_all is_digit ds ≡ true → longest is_identifier (ds ++ after) ≡ 0
digits_no_name laws [] after some h = absurd (omega (arith, some))
digits_no_name laws (d ∷ ds) after some h =
    let digit = (and_parts (is_digit d) (list_all is_digit ds) h).0 in
    let range = digit_range d digit in
    laws.begins_none d (ds ++ after) (omega (arith, range.1)) (grind (arith, range.0, range.1, nat_tests))

literal_there : Laws → (place n : ℕ) (after : List ℕ) → n ≤ greatest_literal → Stops after → piece_at place (decimal n ++ after) ≡ piece.Stands (length (decimal n)) (Literal (pos n))
literal_there laws place n after few stops =
    let numeral = decimal_is_IsNumeral n (omega (arith, few)) in
    let some = numeral.0.0 in
    let digits = all_digits (decimal n) numeral.0.1 in
    let len : prefix_len is_digit (decimal n ++ after) ≡ length (decimal n) = front_digits (decimal n) after digits stops in
    let none = digits_no_name laws (decimal n) after some digits in
    let text = ap (λ k. take k (decimal n ++ after)) len ∙ take-append_seam (decimal n) after in
    let small : nat_le n greatest_literal ≡ true = grind (arith, few) in
    at_literal place (decimal n ++ after) (digits_dense (decimal n) after some digits) (grind (arith, none)) (grind (arith, len, some))
    ∙ ap (literal place) text
    ∙ ap (λ v. if nat_le v greatest_literal then piece.Stands (length (decimal n)) (Literal (pos v)) else Breach (BigLiteral place)) numeral.1
    ∙ ap (λ b. if b then piece.Stands (length (decimal n)) (Literal (pos n)) else Breach (BigLiteral place)) small

-- ---- symbols

-- what is to be known of a symbol that stands at the front
record SymbolFirst (number : ℕ) (s after : List ℕ) : Type 0 where
  dense : IsDense (s ++ after)
  first : (place : ℕ) → symbol_among 1 symbols place (s ++ after) ≡ piece.Stands (length s) (Symbol number)

abbrev AllFirst : ℕ → List (List ℕ) → List ℕ → Type 0
AllFirst number [] after = Unit {0}
AllFirst number (s ∷ ss) after = SymbolFirst number s after × AllFirst (number + 1) ss after

first_as : {number : ℕ} {s after : List ℕ} → first_passes is_blank (s ++ after) ≡ false → begins (codes "--") (s ++ after) ≡ false → begins (codes "(*") (s ++ after) ≡ false → ((place : ℕ) → symbol_among 1 symbols place (s ++ after) ≡ piece.Stands (length s) (Symbol number)) → SymbolFirst number s after
first_as blank line bracket first = record { dense = record { blank = blank; line = line; bracket = bracket }; first = first }

symbols_last : AllFirst 1 symbols []
symbols_last = ((first_as refl refl refl (λ place. refl)), ((first_as refl refl refl (λ place. refl)), ((first_as refl refl refl (λ place. refl)), ((first_as refl refl refl (λ place. refl)), ((first_as refl refl refl (λ place. refl)), ((first_as refl refl refl (λ place. refl)), ((first_as refl refl refl (λ place. refl)), ((first_as refl refl refl (λ place. refl)), ((first_as refl refl refl (λ place. refl)), ((first_as refl refl refl (λ place. refl)), ((first_as refl refl refl (λ place. refl)), ((first_as refl refl refl (λ place. refl)), ((first_as refl refl refl (λ place. refl)), ((first_as refl refl refl (λ place. refl)), ((first_as refl refl refl (λ place. refl)), ((first_as refl refl refl (λ place. refl)), ((first_as refl refl refl (λ place. refl)), ((first_as refl refl refl (λ place. refl)), ((first_as refl refl refl (λ place. refl)), tt)))))))))))))))))))

symbols_before : (b : ℕ) (bs : List ℕ) → IsApart b → AllFirst 1 symbols (b ∷ bs)
symbols_before b bs apart = ((first_as refl refl refl (λ place. refl)), ((first_as refl refl refl (λ place. rw apart.colon refl)), ((first_as refl refl refl (λ place. refl)), ((first_as refl refl refl (λ place. refl)), ((first_as refl refl refl (λ place. refl)), ((first_as refl refl refl (λ place. rw apart.equals refl)), ((first_as refl refl refl (λ place. rw apart.equals refl)), ((first_as refl refl refl (λ place. refl)), ((first_as refl refl refl (λ place. refl)), ((first_as refl (rw apart.dash refl) refl (λ place. refl)), ((first_as refl refl refl (λ place. refl)), ((first_as refl refl (rw apart.star refl) (λ place. refl)), ((first_as refl refl refl (λ place. refl)), ((first_as refl refl refl (λ place. refl)), ((first_as refl refl refl (λ place. refl)), ((first_as refl refl refl (λ place. rw apart.equals refl)), ((first_as refl refl refl (λ place. refl)), ((first_as refl refl refl (λ place. refl)), ((first_as refl refl refl (λ place. refl)), tt)))))))))))))))))))

all_first : (after : List ℕ) → EndsSymbol after → AllFirst 1 symbols after
all_first [] h = symbols_last
all_first (b ∷ bs) h = symbols_before b bs h

-- a byte that begins a symbol begins no identifier and no literal
abbrev begins_symbol : List ℕ → Bool
begins_symbol [] = false
begins_symbol (b ∷ bs) = nat_lt b 128 && (not (is_letter b) && not (is_digit b))

row_at : (number : ℕ) (table : List (List ℕ)) (after : List ℕ) (i : ℕ) (s : List ℕ) → AllFirst number table after → slice_get table i ≡ Some s → SymbolFirst (number + i) s after
row_at number [] after i s all is = cc
row_at number (t ∷ table) after zero s all is =
    let same : t ≡ s = cc in
    let e : number ≡ number + 0 = omega arith in
    subst (λ n. SymbolFirst n s after) e (subst (λ u. SymbolFirst number u after) same all.0)
row_at number (t ∷ table) after (suc i) s all is =
    let e : (number + 1) + i ≡ number + suc i = omega arith in
    subst (λ n. SymbolFirst n s after) e (row_at (number + 1) table after i s all.1 is)

passes_at : (p : List ℕ → Bool) (table : List (List ℕ)) (i : ℕ) (s : List ℕ) → list_all p table ≡ true → slice_get table i ≡ Some s → p s ≡ true
passes_at p [] i s h is = cc
passes_at p (t ∷ table) zero s h is =
    let same : t ≡ s = cc in subst (λ u. p u ≡ true) same (and_parts (p t) (list_all p table) h).0
passes_at p (t ∷ table) (suc i) s h is = passes_at p table i s (and_parts (p t) (list_all p table) h).1 is

no_name : Laws → (s after : List ℕ) → begins_symbol s ≡ true → longest is_identifier (s ++ after) ≡ 0
no_name laws [] after h = absurd (true≢false (sym h))
no_name laws (b ∷ bs) after h =
    let parts = and_parts (nat_lt b 128) (not (is_letter b) && not (is_digit b)) h in
    let others = and_parts (not (is_letter b)) (not (is_digit b)) parts.1 in
    laws.begins_none b (bs ++ after) (grind (arith, parts.0)) (not-true (is_letter b) others.0)

no_digits : (s after : List ℕ) → begins_symbol s ≡ true → prefix_len is_digit (s ++ after) ≡ 0
no_digits [] after h = absurd (true≢false (sym h))
no_digits (b ∷ bs) after h =
    let parts = and_parts (nat_lt b 128) (not (is_letter b) && not (is_digit b)) h in
    let others = and_parts (not (is_letter b)) (not (is_digit b)) parts.1 in
    ap (λ t. cond t (1 + prefix_len is_digit (bs ++ after)) 0) (not-true (is_digit b) others.1)

symbol_there : Laws → (place k : ℕ) (s after : List ℕ) → 0 < k → slice_get symbols (k - 1) ≡ Some s → EndsSymbol after → piece_at place (s ++ after) ≡ piece.Stands (length s) (Symbol k)
symbol_there laws place k s after counted named ends =
    let number : 1 + (k - 1) ≡ k = omega (arith, counted) in
    let found = subst (λ n. SymbolFirst n s after) number (row_at 1 symbols after (k - 1) s (all_first after ends) named) in
    let first = passes_at begins_symbol symbols (k - 1) s refl named in
    let none = no_name laws s after first in
    let digits = no_digits s after first in
    at_symbol place (s ++ after) found.dense (grind (arith, none)) (grind (arith, digits)) ∙ symbol_start place (s ++ after) ∙ found.first place

-- ---- a row

-- what follows a token of this kind
abbrev Follows : TokenKind → List ℕ → Type 0
Follows (Word name) after = Stops after
Follows (Literal n) after = Stops after
Follows (Symbol k) after = EndsSymbol after

stops_follow : (kind : TokenKind) (b : ℕ) (bs : List ℕ) → is_blank b ≡ true → Follows kind (b ∷ bs)
stops_follow (Word name) b bs h = h
stops_follow (Literal n) b bs h = h
stops_follow (Symbol k) b bs h = blank_apart b h

end_follows : (kind : TokenKind) → Follows kind []
end_follows (Word name) = tt
end_follows (Literal n) = tt
end_follows (Symbol k) = tt

digits_follow : (ds after : List ℕ) → 0 < length ds → list_all is_digit ds ≡ true → EndsSymbol (ds ++ after)
digits_follow [] after some h = absurd (omega (arith, some))
digits_follow (d ∷ ds) after some h = digit_apart d (and_parts (is_digit d) (list_all is_digit ds) h).0

touching : (kind : TokenKind) (row : Row) → MayTouch kind row → AreApart row → Follows kind (spaced row)
touching kind [] h apart = end_follows kind
touching (Symbol k) ((Literal (pos n), blanks) ∷ row) h apart =
    let numeral = decimal_is_IsNumeral n (omega (arith, apart.0)) in
    digits_follow (decimal n) (blanks ++ spaced row) numeral.0.0 (all_digits (decimal n) numeral.0.1)
touching (Symbol k) ((Literal (negsuc n), blanks) ∷ row) h apart = absurd apart.0
touching (Symbol k) ((Word name, blanks) ∷ row) h apart = absurd h
touching (Symbol k) ((Symbol m, blanks) ∷ row) h apart = absurd h
touching (Word name) (next ∷ row) h apart = absurd h
touching (Literal n) (next ∷ row) h apart = absurd h

follows : (kind : TokenKind) (blanks : List ℕ) (row : Row) → list_all is_blank blanks ≡ true → (blanks ≡ [] → MayTouch kind row) → AreApart row → Follows kind (blanks ++ spaced row)
follows kind [] row blank touch apart = touching kind row (touch refl) apart
follows kind (b ∷ bs) row blank touch apart = stops_follow kind b (bs ++ spaced row) (and_parts (is_blank b) (list_all is_blank bs) blank).0

token_there : Laws → (place : ℕ) (kind : TokenKind) (after : List ℕ) → IsWritable kind → Follows kind after → piece_at place (text_of kind ++ after) ≡ piece.Stands (length (text_of kind)) kind
token_there laws place (Word name) after w f = word_there laws place name after w.0 w.1 f
token_there laws place (Literal (pos n)) after w f = literal_there laws place n after w f
token_there laws place (Literal (negsuc n)) after w f = absurd w
token_there laws place (Symbol k) after w f =
    symbol_there laws place k (text_of (Symbol k)) after w.0 (slice_get-get_or symbols (k - 1) [] (omega (arith, w.0, w.1))) f

text_long : Laws → (kind : TokenKind) → IsWritable kind → 0 < length (text_of kind)
text_long laws (Word name) w = name_long laws name w.0
text_long laws (Literal (pos n)) w = (decimal_is_IsNumeral n (omega (arith, w))).0.0
text_long laws (Literal (negsuc n)) w = absurd w
text_long laws (Symbol k) w =
    long (text_of (Symbol k)) (passes_at begins_symbol symbols (k - 1) (text_of (Symbol k)) refl (slice_get-get_or symbols (k - 1) [] (omega (arith, w.0, w.1))))
  where
    long : (s : List ℕ) → begins_symbol s ≡ true → 0 < length s
    long [] h = absurd (true≢false (sym h))
    long (b ∷ bs) h = omega arith

row_read : Laws → (place : ℕ) (row : Row) → AreApart row → reading_from place 0 (spaced row) ≡ Ok (placed_from place row)
row_read laws place [] apart = refl
row_read laws place ((kind, blanks) ∷ row) apart =
    let text : List ℕ = text_of kind in
    let after : List ℕ = blanks ++ spaced row in
    let n : ℕ = length text in
    let t : Token = record { at = place; len = n; kind = kind } in
    let stands = token_there laws place kind after apart.0 (follows kind blanks row apart.1 apart.2 apart.3) in
    let long = text_long laws kind apart.0 in
    one_piece place (text ++ after) (piece.Stands n kind) stands (omega (arith, long, length-append text after)) (omega (arith, length-append text after)) long
    ∙ ap (λ l. with_token t (reading_from (place + n) 0 l)) (drop-append_seam text after)
    ∙ ap (with_token t) (blanks_passed (place + n) blanks (spaced row) apart.1 ∙ row_read laws (place + n + length blanks) row apart.3)

pub reads_back : Laws → (row : Row) → AreApart row → AreTokens (spaced row) (placed_from 0 row)
unfolding reading
reads_back laws row apart = row_read laws 0 row apart
