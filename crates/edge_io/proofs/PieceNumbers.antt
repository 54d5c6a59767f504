-- The number of a piece, against what `parse` reads.
use Rattle.std.proofs.Common.{◌≡◌, ◌≢◌, ℕ, zero, suc, ◌<◌, ◌≤◌, ◌^◌, ℤ, pos, neg_ℤ, Bool, true, false, ◌&&◌, cond, eqb, List, [], ◌∷◌, length, drop, get_or, Some, None, Result, Ok, Err, refl, arith, rules, w64}
use Rattle.std.specs.Result.{OkIff, result_ok}
use Rattle.std.specs.Str.{all_ascii_digits, IsUtf8, IsAscii}
use Rattle.std.specs.Str.Parse.{ParsesSigned}
use Rattle.std.proofs.lemmas.Bool.{and_parts, eqb-true, ne_eqb, eqb-false, le-leb, leb-true}
use Rattle.std.proofs.lemmas.Str.{IsUtf8-from_ascii, IsUtf8-nil}
use Rattle.std.proofs.lemmas.Str.Parse.{IsNumeralModel, numerals_by_fold, tells_all_ascii_digits, parse_signed_minus, parse_signed_plain}
use Rattle.edge_io.specs.Numbers.{read_on, after_minus, are_digits, is_word, number_of}

own : IsNumeralModel (λ ds. all_ascii_digits ds ≡ true) (read_on 0)
own = numerals_by_fold _ (search rules) read_on (search rules)

and_both : (a b : Bool) → a ≡ true → b ≡ true → (a && b) ≡ true
and_both a b e f = rw (e, f) refl

digits_to : (ds : List ℕ) → are_digits ds ≡ true → (all_ascii_digits ds ≡ true) × (0 < length ds)
digits_to [] e = cc
digits_to (d ∷ ds) e = (e, omega arith)

digits_from : (ds : List ℕ) → all_ascii_digits ds ≡ true → 0 < length ds → are_digits ds ≡ true
digits_from [] e some = absurd (omega arith)
digits_from (d ∷ ds) e some = e

plus_from : (v : ℕ) → v < 2 ^ 63 → is_word (pos v) ≡ true
plus_from v h = le-leb v 9223372036854775807 (omega arith)

plus_to : (v : ℕ) → is_word (pos v) ≡ true → v < 2 ^ 63
plus_to v e = let h = leb-true v 9223372036854775807 e in omega arith

minus_from : (v : ℕ) → v ≤ 2 ^ 63 → is_word (neg_ℤ (pos v)) ≡ true
minus_from zero h = refl
minus_from (suc k) h = let small : k ≤ 9223372036854775807 = omega arith in rw (le-leb k 9223372036854775807 small) refl

minus_to : (v : ℕ) → is_word (neg_ℤ (pos v)) ≡ true → v ≤ 2 ^ 63
minus_to zero e = omega arith
minus_to (suc k) e =
    let h = leb-true k 9223372036854775807 (and_parts _ _ e).0 in
    omega arith

-- an answer by a test
chosen : {E : Type 0} (b : Bool) (Q : Type 0) (z : ℤ) (r : Result ℤ E) → OkIff r Q z → (Q → b ≡ true) → (b ≡ true → Q) → result_ok r ≡ cond b (Some z) None
chosen b Q z (Ok x) (q, e) to from = rw (to q, e) refl
chosen true Q z (Err x) refuted to from = absurd (refuted (from refl))
chosen false Q z (Err x) refuted to from = refl

with_sign : {E : Type 0} (ds : List ℕ) (z : ℤ) (P : Type 0) (r : Result ℤ E) → OkIff r ((all_ascii_digits ds ≡ true) × (0 < length ds) × P) z → (P → is_word z ≡ true) → (is_word z ≡ true → P) → result_ok r ≡ cond (are_digits ds && is_word z) (Some z) None
with_sign ds z P r h to from =
    chosen (are_digits ds && is_word z) ((all_ascii_digits ds ≡ true) × (0 < length ds) × P) z r h
    (λ q. and_both (are_digits ds) (is_word z) (digits_from ds q.0 q.1) (to q.2))
    (λ e. let parts = and_parts (are_digits ds) (is_word z) e in
    let digits = digits_to ds parts.0 in
    (digits.0, digits.1, from parts.1))

plain : {E : Type 0} (bs : List ℕ) (r : Result ℤ E) → ParsesSigned w64 10 bs r → get_or bs 0 0 ≢ 43 → get_or bs 0 0 ≢ 45 → result_ok r ≡ number_of bs
plain bs r h plus minus =
    rw (ne_eqb (get_or bs 0 0) 45 minus)
    (with_sign bs (pos (read_on 0 bs)) (read_on 0 bs < 2 ^ 63) r (parse_signed_plain own w64 bs r h plus minus)
    (plus_from (read_on 0 bs)) (plus_to (read_on 0 bs)))

minus : {E : Type 0} (bs : List ℕ) (r : Result ℤ E) → ParsesSigned w64 10 bs r → eqb (get_or bs 0 0) 45 ≡ true → result_ok r ≡ number_of bs
minus bs r h is =
    let ds = drop 1 bs in
    rw is
    (with_sign ds (neg_ℤ (pos (read_on 0 ds))) (read_on 0 ds ≤ 2 ^ 63) r (parse_signed_minus own w64 bs r h (eqb-true (get_or bs 0 0) 45 is))
    (minus_from (read_on 0 ds)) (minus_to (read_on 0 ds)))

parsed_by : {E : Type 0} (bs : List ℕ) (r : Result ℤ E) (t : Bool) → eqb (get_or bs 0 0) 45 ≡ t → ParsesSigned w64 10 bs r → get_or bs 0 0 ≢ 43 → result_ok r ≡ number_of bs
parsed_by bs r true e h plus = minus bs r h e
parsed_by bs r false e h plus = plain bs r h plus (eqb-false (get_or bs 0 0) 45 e)

-- a text without a plus sign is read as its number
pub parsed : {E : Type 0} (bs : List ℕ) (r : Result ℤ E) → ParsesSigned w64 10 bs r → get_or bs 0 0 ≢ 43 → result_ok r ≡ number_of bs
parsed bs r h plus = parsed_by bs r (eqb (get_or bs 0 0) 45) refl h plus

digits_ascii : (ds : List ℕ) → all_ascii_digits ds ≡ true → IsAscii ds
digits_ascii [] e i = omega arith
digits_ascii (d ∷ ds) e zero = omega (arith, (tells_all_ascii_digits.parts d ds e).0)
digits_ascii (d ∷ ds) e (suc i) = digits_ascii ds (tells_all_ascii_digits.parts d ds e).1 i

signed_ascii : (b : ℕ) (bs : List ℕ) (t : Bool) → eqb b 45 ≡ t → are_digits (cond t bs (b ∷ bs)) ≡ true → IsAscii (b ∷ bs)
signed_ascii b bs false e h i = digits_ascii (b ∷ bs) h i
signed_ascii b bs true e h zero = omega (arith, eqb-true b 45 e)
signed_ascii b bs true e h (suc i) = digits_ascii bs (digits_to bs h).0 i

numeral_utf8 : (bs : List ℕ) → are_digits (after_minus bs) ≡ true → IsUtf8 bs
numeral_utf8 [] e = IsUtf8-nil
numeral_utf8 (b ∷ bs) e = IsUtf8-from_ascii (b ∷ bs) (signed_ascii b bs (eqb b 45) refl e)

no_text_by : (bs : List ℕ) (t : Bool) → are_digits (after_minus bs) ≡ t → ¬ (IsUtf8 bs) → number_of bs ≡ None
no_text_by bs true e refuted = absurd (refuted (numeral_utf8 bs e))
no_text_by bs false e refuted = rw e refl

-- what is no text is no number
pub no_text : (bs : List ℕ) → ¬ (IsUtf8 bs) → number_of bs ≡ None
no_text bs refuted = no_text_by bs (are_digits (after_minus bs)) refl refuted
