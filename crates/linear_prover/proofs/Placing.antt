-- Combinations by their flags: their places, and the lines that are made of them.
use Rattle.std.proofs.Common.{◌≡◌, ◌∙◌, sym, ap, subst, refl, ℕ, zero, suc, ◌+◌, ◌-◌, ◌<◌, ◌==◌, Bool, true, false, ◌||◌, if◌then◌else◌, List, [], ◌∷◌, ◌++◌, length, reverse, replicate, map, count_by, get_or, slice_index, set, take, All, ◌^◌, pos, ⊎_elim, arith}
use Rattle.std.proofs.lemmas.Bool.{ne_eqb, eq-eqb, cases_lt, cases_eq, or_left, false≢true, lt-ltb, le-ltb}
use Rattle.std.proofs.lemmas.List.{get_or-set_same, get_or-set_other, get_or-replicate, length-replicate, get_or_default, get_or_past, length-set, length-take, length-take-le, map_push, append-nil, take_more}
use Rattle.std.proofs.lemmas.List.Sums.{sum_by-cons, count_by-le-length}
use Rattle.math_terms.specs.declared.name.Line.{Line}
use Rattle.linear_prover.specs.declared.rows_in_hand.Combination.{Combination}
use Rattle.linear_prover.specs.Elimination.{called, kept, line_of, lines_of, needed_by_last, place_of}
use Rattle.linear_prover.specs.working.Eliminating.{AreFlags, ArePlaces, IsClosed, IsThere, called_by, flagged, line_by}

abbrev pub numbers : List (ℕ × Combination) → List ℕ
numbers ds = map (λ d. d.0) ds

flagged_push : (n : ℕ) (fs : List Bool) (cs : List Combination) (f : Bool) (c : Combination) → length fs ≡ length cs →
    flagged n (fs ++ f ∷ []) (cs ++ c ∷ []) ≡ flagged n fs cs ++ (if f then (n + length fs, c) ∷ [] else [])
flagged_push n [] [] true c long = ap (λ m. (m, c) ∷ []) (omega arith)
flagged_push n [] [] false c long = refl
flagged_push n [] (d ∷ cs) f c long = absurd (omega arith)
flagged_push n (e ∷ fs) [] f c long = absurd (omega arith)
flagged_push n (true ∷ fs) (d ∷ cs) f c long =
    ap (λ ds. (n, d) ∷ ds) (flagged_push (n + 1) fs cs f c (omega arith)
    ∙ ap (λ m. flagged (n + 1) fs cs ++ (if f then (m, c) ∷ [] else [])) (omega arith))
flagged_push n (false ∷ fs) (d ∷ cs) f c long =
    flagged_push (n + 1) fs cs f c (omega arith)
    ∙ ap (λ m. flagged (n + 1) fs cs ++ (if f then (m, c) ∷ [] else [])) (omega arith)

-- the lines of the combinations before a place, and those with one more
flagged_more : (n at : ℕ) (flags : List Bool) (made : List Combination) (d : Combination) (f : Bool) → length flags ≡ length made → at < length made → get_or flags at false ≡ f →
    flagged n (take (at + 1) flags) (take (at + 1) made) ≡ flagged n (take at flags) (take at made) ++ (if f then (n + at, get_or made at d) ∷ [] else [])
flagged_more n at flags made d f long within flag =
    let long_taken : length (take at flags) ≡ at = length-take-le at flags (omega arith) in
    rw (take_more flags at false (omega arith), take_more made at d within, flag)
    (flagged_push n (take at flags) (take at made) f (get_or made at d) (omega (arith, length-take-le at made (omega arith)))
    ∙ ap (λ m. flagged n (take at flags) (take at made) ++ (if f then (m, get_or made at d) ∷ [] else [])) (ap (λ m. n + m) long_taken))

pub lines_turn : (g : ℕ × Combination → Line) (n at : ℕ) (flags : List Bool) (made : List Combination) (d : Combination) (before after : List Line) → length flags ≡ length made → at < length made →
    get_or flags at false ≡ true → before ≡ map g (flagged n (take at flags) (take at made)) → after ≡ before ++ g (n + at, get_or made at d) ∷ [] →
    after ≡ map g (flagged n (take (at + 1) flags) (take (at + 1) made))
lines_turn g n at flags made d before after long within flag so_far push =
    push ∙ (ap (λ ls. ls ++ g (n + at, get_or made at d) ∷ []) so_far
    ∙ (sym (map_push g (flagged n (take at flags) (take at made)) (n + at, get_or made at d)) ∙ ap (map g) (sym (flagged_more n at flags made d true long within flag))))

pub lines_skip : (g : ℕ × Combination → Line) (n at : ℕ) (flags : List Bool) (made : List Combination) (d : Combination) (before : List Line) → length flags ≡ length made → at < length made →
    get_or flags at false ≡ false → before ≡ map g (flagged n (take at flags) (take at made)) →
    before ≡ map g (flagged n (take (at + 1) flags) (take (at + 1) made))
lines_skip g n at flags made d before long within flag so_far =
    so_far ∙ ap (map g) (sym (flagged_more n at flags made d false long within flag ∙ append-nil (flagged n (take at flags) (take at made))))

-- no flag is set but the last
pub last_flag : (n count : ℕ) → 0 < count → AreFlags n (set (replicate count false) (count - 1) true) ((n + (count - 1)) ∷ [])
last_flag n count some = λ k within.
    let long : length (replicate count false) ≡ count = length-replicate count false in
    let inside : k < count = omega (arith, length-set (replicate count false) (count - 1) true) in
    ⊎_elim
    (λ last. ap (λ m. get_or (set (replicate count false) m true) k false) (sym last) ∙ (get_or-set_same (replicate count false) k true false (omega arith)
    ∙ sym (or_left (n + (count - 1) == n + k) false (eq-eqb (n + (count - 1)) (n + k) (omega arith)))))
    (λ other. get_or-set_other (replicate count false) (count - 1) k true false other ∙ (get_or-replicate count k false false inside
    ∙ sym (ap (λ b. b || false) (ne_eqb (n + (count - 1)) (n + k) (omega arith)))))
    (cases_eq k (count - 1))

pub needed_is : (n : ℕ) (made rs : List Combination) → reverse made ≡ rs → 0 < length rs → needed_by_last n made ≡ kept n rs ((n + (length rs - 1)) ∷ []) []
needed_is n made [] e some = absurd (omega arith)
needed_is n made (c ∷ cs) e some = rw e (ap (λ m. kept n (c ∷ cs) ((n + m) ∷ []) []) (omega arith))

place_is : (n : ℕ) (flags : List Bool) (made : List Combination) (k : ℕ) → length flags ≡ length made → get_or flags k false ≡ true →
    place_of (n + k) (numbers (flagged n flags made)) ≡ count_by (λ f. f) (take k flags)
place_is n [] made k long flag = absurd (false≢true flag)
place_is n (f ∷ fs) [] k long flag = absurd (omega arith)
place_is n (true ∷ fs) (c ∷ cs) zero long flag = rw (eq-eqb n (n + 0) (omega arith)) refl
place_is n (false ∷ fs) (c ∷ cs) zero long flag = absurd (false≢true flag)
place_is n (true ∷ fs) (c ∷ cs) (suc k) long flag =
    rw (ne_eqb n (n + suc k) (omega arith))
    (ap suc (ap (λ m. place_of m (numbers (flagged (n + 1) fs cs))) (omega arith) ∙ place_is (n + 1) fs cs k (omega arith) flag)
    ∙ omega (arith, sum_by-cons (λ f. if f then 1 else 0) true (take k fs)))
place_is n (false ∷ fs) (c ∷ cs) (suc k) long flag =
    ap (λ m. place_of m (numbers (flagged (n + 1) fs cs))) (omega arith) ∙ (place_is (n + 1) fs cs k (omega arith) flag
    ∙ omega (arith, sum_by-cons (λ f. if f then 1 else 0) false (take k fs)))

map_flagged : {A : Type 0} (f g : ℕ × Combination → A) (n : ℕ) (flags : List Bool) (made : List Combination) →
    ((k : ℕ) (d : Combination) → k < length made → get_or flags k false ≡ true → f (n + k, get_or made k d) ≡ g (n + k, get_or made k d)) →
    map f (flagged n flags made) ≡ map g (flagged n flags made)
map_flagged f g n [] made same = refl
map_flagged f g n (e ∷ fs) [] same = refl
map_flagged f g n (true ∷ fs) (c ∷ cs) same =
    let first : f (n, c) ≡ g (n, c) = subst (λ m. f (m, c) ≡ g (m, c)) (omega arith) (same 0 c (omega arith) refl) in
    let rest : map f (flagged (n + 1) fs cs) ≡ map g (flagged (n + 1) fs cs) =
    map_flagged f g (n + 1) fs cs (λ k d within flag. subst (λ m. f (m, get_or cs k d) ≡ g (m, get_or cs k d)) (omega arith) (same (suc k) d (omega arith) flag)) in
    cc
map_flagged f g n (false ∷ fs) (c ∷ cs) same =
    map_flagged f g (n + 1) fs cs (λ k d within flag. subst (λ m. f (m, get_or cs k d) ≡ g (m, get_or cs k d)) (omega arith) (same (suc k) d (omega arith) flag))

called_same : (n : ℕ) (flags : List Bool) (made : List Combination) (places : List ℕ) (row : ℕ) → length flags ≡ length made → ArePlaces flags places → IsThere n flags row →
    called_by n places row ≡ called n (numbers (flagged n flags made)) row
called_same n flags made places row long are there =
    ⊎_elim
    (λ low. rw (lt-ltb row n low) refl)
    (λ high.
    let flag = there high in
    let place = place_is n flags made (row - n) long flag in
    let counted = are.1 (row - n) (set_within flags (row - n) flag) in
    rw (le-ltb row n high)
    (ap (λ m. n + m + 1) (counted ∙ (sym place ∙ ap (λ m. place_of m (numbers (flagged n flags made))) (omega arith)))))
    (cases_lt row n)
  where
    set_within : (fs : List Bool) (k : ℕ) → get_or fs k false ≡ true → k < length fs
    set_within fs k flag = ⊎_elim (λ within. within) (λ past. absurd (false≢true (sym (get_or_past fs k false past) ∙ flag))) (cases_lt k (length fs))

pub lines_same : (n : ℕ) (flags : List Bool) (made : List Combination) (places : List ℕ) → length flags ≡ length made → IsClosed n flags made → ArePlaces flags places →
    map (λ d. line_by n places d.1) (flagged n flags made) ≡ lines_of n (flagged n flags made)
lines_same n flags made places long closed are =
    map_flagged (λ d. line_by n places d.1) (λ d. line_of n (numbers (flagged n flags made)) d.1) n flags made
    (λ k d within flag.
    let there = closed k d within flag in
    let c : Combination = get_or made k d in
    let first = called_same n flags made places c.i long are there.0 in
    let second = called_same n flags made places c.j long are there.1 in
    λ x. record { p = pos c.p; i = first x; q = pos c.q; j = second x })

-- what comes before a line's number fits
pub places_small : (n : ℕ) (flags : List Bool) (places : List ℕ) → n + length flags < 2 ^ 31 → ArePlaces flags places → All (λ place. n + place + 1 < 2 ^ 32) places
places_small n flags places few are = λ k d within.
    let counted = are.1 k (omega (arith, are.0)) in
    let same : get_or places k d ≡ slice_index places k = get_or_default places k d 0 within in
    omega (arith, counted, same, count_by-le-length (λ f. f) (take k flags), length-take k flags)
