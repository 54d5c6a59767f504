-- The numbers of a text, piece by piece.
use Rattle.std.proofs.Common.{◌≡◌, ◌≢◌, ℕ, ◌+◌, ◌-◌, ◌<◌, ◌≤◌, ℤ, List, [], ◌∷◌, ◌++◌, length, take, drop, Some, None, Result, Ok, Err, refl, ap, ◌∙◌, append_assoc, arith, length-append, length-drop, zero-add}
use Rattle.std.proofs.lemmas.Bool.{cond-false, lt-ltb, le-ltb}
use Rattle.std.proofs.lemmas.List.{append-nil, drop-drop, drop_all, take_rest}
use Rattle.std.proofs.lemmas.List.Sums.{prefix_len-le-length}
use Rattle.std.specs.List.{prefix_len}
use Rattle.edge_io.specs.declared.numbers.InputError.{InputError}
use Rattle.edge_io.specs.declared.numbers.InputError.TheVariants.{NoNumber, TooMany}
use Rattle.edge_io.specs.Numbers.{most_text_bytes, most_numbers, is_blank, is_part, pieces_from, pieces, number_of, followed, with_piece, numbers_after, reading}
use Rattle.edge_io.proofs.Pieces.{pieces-skip, pieces-first, blanks_over, part_first}

-- numbers before those that follow them
abbrev pub prepended : List ℤ → Result (List ℤ) InputError → Result (List ℤ) InputError
prepended ns (Ok ms) = Ok (ns ++ ms)
prepended ns (Err e) = Err e

prepended-nil : (r : Result (List ℤ) InputError) → prepended [] r ≡ r
prepended-nil (Ok ms) = refl
prepended-nil (Err e) = refl

prepended-followed : (ns : List ℤ) (n : ℤ) (r : Result (List ℤ) InputError) → prepended ns (followed n r) ≡ prepended (ns ++ n ∷ []) r
prepended-followed ns n (Ok ms) = rw append_assoc refl
prepended-followed ns n (Err e) = refl

-- What stands before a place is read as these numbers, and no blank stands at the place.
pub record HasRead (text : List ℕ) (numbers : List ℤ) (at : ℕ) : Type 0 where
  pub within : at ≤ length text
  pub few : length numbers ≤ most_numbers
  pub no_blank : prefix_len is_blank (drop at text) ≡ 0
  pub rest : numbers_after 0 (pieces text) ≡ prepended numbers (numbers_after (length numbers) (pieces_from at (drop at text)))

pub has_read_none : (text : List ℕ) → HasRead text [] (prefix_len is_blank text)
has_read_none text = record {
  within = prefix_len-le-length is_blank text;
  few = omega arith;
  no_blank = blanks_over text;
  rest = rw prepended-nil (ap (λ ps. numbers_after 0 ps) (rw zero-add at (pieces-skip 0 text)));
}

stands : (text : List ℕ) (at : ℕ) → at < length text → drop at text ≢ []
stands text at lt e = let h = ap (λ (l : List ℕ). length l) e in omega (arith, h, length-drop {A = ℕ})

-- the piece at a place is not empty
part_some : (text : List ℕ) (numbers : List ℤ) (at m : ℕ) → HasRead text numbers at → at < length text → m ≡ prefix_len is_part (drop at text) → 0 < m
part_some text numbers at m h lt is = rw is (part_first (drop at text) (stands text at lt) h.no_blank)

-- what is read from a place on, where a piece stands
next : (text : List ℕ) (numbers : List ℤ) (at m : ℕ) → HasRead text numbers at → at < length text → m ≡ prefix_len is_part (drop at text) →
    numbers_after 0 (pieces text) ≡ prepended numbers (with_piece (length numbers) at (number_of (take m (drop at text))) (numbers_after (length numbers + 1) (pieces_from (at + m) (drop m (drop at text)))))
next text numbers at m h lt is =
    let first : pieces_from at (drop at text) ≡ (at, take m (drop at text)) ∷ pieces_from (at + m) (drop m (drop at text)) =
    rw is (pieces-first at (drop at text) (part_first (drop at text) (stands text at lt) h.no_blank)) in
    h.rest ∙ ap (λ ps. prepended numbers (numbers_after (length numbers) ps)) first

short : (text : List ℕ) → length text ≤ most_text_bytes → reading text ≡ numbers_after 0 (pieces text)
short text few = cond-false _ _ _ (le-ltb most_text_bytes (length text) few)

no_number : (text : List ℕ) (numbers : List ℤ) (at m : ℕ) → length text ≤ most_text_bytes → HasRead text numbers at → at < length text → m ≡ prefix_len is_part (drop at text) →
    None ≡ number_of (take m (drop at text)) → reading text ≡ Err (NoNumber at)
no_number text numbers at m few h lt is none =
    short text few ∙ next text numbers at m h lt is ∙ rw (← none) refl

too_many : (text : List ℕ) (numbers : List ℤ) (at m : ℕ) (n : ℤ) → length text ≤ most_text_bytes → HasRead text numbers at → at < length text → m ≡ prefix_len is_part (drop at text) →
    Some n ≡ number_of (take m (drop at text)) → most_numbers ≤ length numbers → reading text ≡ Err (TooMany at)
too_many text numbers at m n few h lt is number many =
    short text few ∙ next text numbers at m h lt is ∙ rw (← number, le-ltb (length numbers) most_numbers many) refl

has_read_more : (text : List ℕ) (numbers : List ℤ) (at m k : ℕ) (n : ℤ) → HasRead text numbers at → at < length text → m ≡ prefix_len is_part (drop at text) →
    Some n ≡ number_of (take m (drop at text)) → length numbers < most_numbers → k ≡ prefix_len is_blank (drop m (drop at text)) → HasRead text (numbers ++ n ∷ []) (at + (m + k))
has_read_more text numbers at m k n h lt is number room blanks =
    let rest = drop m (drop at text) in
    let onward : drop k rest ≡ drop (at + (m + k)) text = ap (λ l. drop k l) (drop-drop m at text) ∙ drop-drop k (at + m) text ∙ ap (λ i. drop i text) (omega arith) in
    let assoc : at + m + k ≡ at + (m + k) = omega arith in
    let pushed : length (numbers ++ n ∷ []) ≡ length numbers + 1 = omega (arith, length-append numbers (n ∷ [])) in
    let fits : k ≤ length rest = rw blanks (prefix_len-le-length is_blank rest) in
    let len : m ≤ length (drop at text) = rw is (prefix_len-le-length is_part (drop at text)) in
    let later : pieces_from (at + m) rest ≡ pieces_from (at + (m + k)) (drop (at + (m + k)) text) = rw (← onward, ← assoc, blanks) (pieces-skip (at + m) rest) in
    let r : Result (List ℤ) InputError = numbers_after (length numbers + 1) (pieces_from (at + m) rest) in
    let one : prepended numbers (with_piece (length numbers) at (number_of (take m (drop at text))) r) ≡ prepended (numbers ++ n ∷ []) r =
    rw (← number, lt-ltb (length numbers) most_numbers room) (prepended-followed numbers n r) in
    record {
      within = omega (arith, fits, len, length-drop at text, length-drop m (drop at text));
      few = omega arith;
      no_blank = rw (← onward, blanks) (blanks_over rest);
      rest = next text numbers at m h lt is ∙ one ∙ rw (pushed, ← later) refl;
    }

-- The same of slices, as the code takes them.
abbrev pub rest_of : List ℕ → ℕ → List ℕ
rest_of text at = take (length text - at) (drop at text)

pub slice_no_number : (text : List ℕ) (numbers : List ℤ) (at m : ℕ) → length text ≤ most_text_bytes → HasRead text numbers at → at < length text → m ≡ prefix_len is_part (rest_of text at) →
    None ≡ number_of (take m (rest_of text at)) → reading text ≡ Err (NoNumber at)
slice_no_number text numbers at m few h lt is none =
    no_number text numbers at m few h lt (simp take_rest at is) (simp take_rest at none)

pub slice_too_many : (text : List ℕ) (numbers : List ℤ) (at m : ℕ) (n : ℤ) → length text ≤ most_text_bytes → HasRead text numbers at → at < length text → m ≡ prefix_len is_part (rest_of text at) →
    Some n ≡ number_of (take m (rest_of text at)) → most_numbers ≤ length numbers → reading text ≡ Err (TooMany at)
slice_too_many text numbers at m n few h lt is number many =
    too_many text numbers at m n few h lt (simp take_rest at is) (simp take_rest at number) many

pub slice_more : (text : List ℕ) (numbers : List ℤ) (at m k : ℕ) (n : ℤ) → HasRead text numbers at → at < length text → m ≡ prefix_len is_part (rest_of text at) →
    Some n ≡ number_of (take m (rest_of text at)) → length numbers < most_numbers → k ≡ prefix_len is_blank (rest_of (rest_of text at) m) → HasRead text (numbers ++ n ∷ []) (at + (m + k))
slice_more text numbers at m k n h lt is number room blanks =
    has_read_more text numbers at m k n h lt (simp take_rest at is) (simp take_rest at number) room (simp take_rest at blanks)

pub slice_some : (text : List ℕ) (numbers : List ℤ) (at m : ℕ) → HasRead text numbers at → at < length text → m ≡ prefix_len is_part (rest_of text at) → 0 < m
slice_some text numbers at m h lt is = part_some text numbers at m h lt (simp take_rest at is)

pub has_read_all : (text : List ℕ) (numbers : List ℤ) (at : ℕ) → length text ≤ most_text_bytes → HasRead text numbers at → length text ≤ at → reading text ≡ Ok numbers
has_read_all text numbers at few h end =
    short text few ∙ h.rest ∙ rw (drop_all at text end, append-nil) refl
