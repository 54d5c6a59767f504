-- The numbers of an input: at most 65,535 numbers of 64 bits.
use Rattle.std.proofs.Common.{◌≡◌, refl, subst, ℕ, ◌+◌, ◌<◌, ◌≤◌, ℤ, Bool, true, false, List, [], ◌∷◌, length, Option, Some, None, Result, Ok, Err, arith}
use Rattle.std.specs.Prelude.{IsTrue, ◌&&◌, nat_lt, if◌then◌else◌}
use Rattle.std.specs.List.{AllByRecursion}
use Rattle.std.proofs.lemmas.Bool.Decides.{nat_tests}
use Rattle.edge_io.specs.declared.numbers.InputError.{InputError}
use Rattle.edge_io.specs.Numbers.{Piece, are_digits, after_minus, followed, is_word, most_numbers, most_text_bytes, number_of, numbers_after, pieces, reading, signed_number, with_piece}
use Rattle.main_vcs.specs.Soundness.{IsInput}

chosen : (digits word : Bool) (n m : ℤ) → (if digits && word then Some n else None) ≡ Some m → (word ≡ true) × (n ≡ m)
chosen true true n m h = (refl, cc)
chosen true false n m h = absurd (cc)
chosen false word n m h = absurd (cc)

piece_word : (piece : List ℕ) (n : ℤ) → number_of piece ≡ Some n → IsTrue (is_word n)
piece_word piece n h =
    let is = chosen (are_digits (after_minus piece)) (is_word (signed_number piece)) (signed_number piece) n h in
    subst (λ k. IsTrue (is_word k)) is.1 is.0

-- numbers of 64 bits, which with so many before them are not too many
pub record Fit (k : ℕ) (ns : List ℤ) : Type 0 where
  pub words : AllByRecursion (λ n. IsTrue (is_word n)) ns
  pub few : k ≤ most_numbers → k + length ns ≤ most_numbers

below : (k n : ℕ) → nat_lt k n ≡ true → k < n
below k n h = grind (arith, nat_tests)

followed_fit : (k : ℕ) (n : ℤ) (rest : Result (List ℤ) InputError) (ns : List ℤ) → IsTrue (is_word n) → k < most_numbers → ((ms : List ℤ) → rest ≡ Ok ms → Fit (k + 1) ms) → followed n rest ≡ Ok ns → Fit k ns
followed_fit k n (Ok ms) ns word within later h =
    let lists : n ∷ ms ≡ ns = cc in
    let rest = later ms refl in
    let few = rest.few (omega (arith, within)) in
    subst (Fit k) lists (record { words = (word, rest.words); few = λ le. omega (arith, few) })
followed_fit k n (Err e) ns word within later h = absurd (cc)

piece_fit : (k at : ℕ) (piece : List ℕ) (o : Option ℤ) (rest : Result (List ℤ) InputError) (ns : List ℤ) → number_of piece ≡ o → ((ms : List ℤ) → rest ≡ Ok ms → Fit (k + 1) ms) → with_piece k at o rest ≡ Ok ns → Fit k ns
piece_fit k at piece None rest ns is later h = absurd (cc)
piece_fit k at piece (Some n) rest ns is later h = by_count (nat_lt k most_numbers) refl h
  where
    by_count : (b : Bool) → nat_lt k most_numbers ≡ b → (if b then followed n rest else Err (InputError.TooMany at)) ≡ Ok ns → Fit k ns
    by_count true within e = followed_fit k n rest ns (piece_word piece n is) (below k most_numbers within) later e
    by_count false within e = absurd (cc)

numbers_fit : (k : ℕ) (ps : List Piece) (ns : List ℤ) → numbers_after k ps ≡ Ok ns → Fit k ns
numbers_fit k [] ns h = let lists : [] ≡ ns = cc in subst (Fit k) lists (record { words = tt; few = λ le. omega (arith, le) })
numbers_fit k (p ∷ ps) ns h = piece_fit k p.0 p.1 (number_of p.1) (numbers_after (k + 1) ps) ns refl (numbers_fit (k + 1) ps) h

text_fit : (b : Bool) (text : List ℕ) (ns : List ℤ) → (if b then Err InputError.TooLong else numbers_after 0 (pieces text)) ≡ Ok ns → Fit 0 ns
text_fit true text ns h = absurd (cc)
text_fit false text ns h = numbers_fit 0 (pieces text) ns h

pub is_input : (text : List ℕ) (ns : List ℤ) → reading text ≡ Ok ns → IsInput ns
is_input text ns h =
    let fit = text_fit (nat_lt most_text_bytes (length text)) text ns h in
    let few = fit.few (omega arith) in
    record { few = omega (arith, few); words = fit.words }
