-- Flags, set from the last combination to the first, tell which combinations are kept.
use Rattle.std.proofs.Common.{◌≡◌, ◌≢◌, ◌∙◌, sym, ap, subst, refl, ℕ, ◌+◌, ◌-◌, ◌<◌, ◌≤◌, ◌==◌, Bool, true, false, ◌||◌, if◌then◌else◌, List, [], ◌∷◌, length, reverse, get_or, take, drop, ⊎_elim, arith}
use Rattle.std.proofs.lemmas.Bool.{ne_eqb, eq-eqb, cases_lt, cases_eq, or_left, or_right, false≢true}
use Rattle.std.proofs.lemmas.Bool.Decides.{nat_tests}
use Rattle.std.proofs.lemmas.List.{get_or-set_same, get_or-set_other, get_or_default, get_or_past, length-set, length-reverse, length-take, drop-set-lt, drop_more, take_more, take_all, drop_all, reverse-append}
use Rattle.linear_prover.specs.declared.rows_in_hand.Combination.{Combination}
use Rattle.linear_prover.specs.Elimination.{kept, is_among}
use Rattle.linear_prover.specs.working.Eliminating.{AreFlags, IsThere, flagged, marked}

pub length-marked : (n : ℕ) (flags : List Bool) (row : ℕ) → length (marked n flags row) ≡ length flags
length-marked n flags row = grind (arith, nat_tests, length-set)

-- a flag after one more was set
pub marked_flag : (n : ℕ) (flags : List Bool) (row k : ℕ) → k < length flags → get_or (marked n flags row) k false ≡ ((row == (n + k)) || get_or flags k false)
marked_flag n flags row k within =
    ⊎_elim
    (λ low. let other : row ≢ n + k = omega arith in grind (arith, nat_tests))
    (λ high. ⊎_elim
    (λ same. let at : row - n ≡ k = omega arith in grind (arith, nat_tests, get_or-set_same))
    (λ other. let apart : k ≢ row - n = omega arith in grind (arith, nat_tests, get_or-set_other))
    (cases_eq row (n + k)))
    (cases_lt row n)

pub drop-marked : (n : ℕ) (flags : List Bool) (row at : ℕ) → row < n + at → drop at (marked n flags row) ≡ drop at flags
drop-marked n flags row at below =
    ⊎_elim
    (λ low. grind (arith, nat_tests))
    (λ high. let before : row - n < at = omega arith in grind (arith, nat_tests, drop-set-lt))
    (cases_lt row n)

or_swap : (a b c : Bool) → (a || (b || c)) ≡ (b || (a || c))
or_swap true true c = refl
or_swap true false c = refl
or_swap false true c = refl
or_swap false false c = refl

-- a flag after those of two rows were set
pub marked_twice : (n : ℕ) (flags : List Bool) (i j k : ℕ) → k < length flags →
    get_or (marked n (marked n flags i) j) k false ≡ ((i == (n + k)) || ((j == (n + k)) || get_or flags k false))
marked_twice n flags i j k within =
    marked_flag n (marked n flags i) j k (omega (arith, length-marked n flags i))
    ∙ (ap (λ b. (j == (n + k)) || b) (marked_flag n flags i k within) ∙ or_swap (j == (n + k)) (i == (n + k)) (get_or flags k false))

-- What is kept, when the flags from place `at` on are settled: the needed rows now have the flags before it.
pub record IsKeeping (n at : ℕ) (flags : List Bool) (made : List Combination) (needed : List ℕ) : Type 0 where
  pub now : List ℕ
  pub agree : (k : ℕ) → k < at → get_or flags k false ≡ is_among now (n + k)
  pub same : kept n (reverse (take at made)) now (flagged (n + at) (drop at flags) (drop at made)) ≡ kept n (reverse made) needed []

reverse_more : (made : List Combination) (at : ℕ) (c : Combination) → at < length made → get_or made at c ≡ c →
    reverse (take (at + 1) made) ≡ c ∷ reverse (take at made)
reverse_more made at c within is = ap reverse (take_more made at c within) ∙ (reverse-append (take at made) (get_or made at c ∷ []) ∙ ap (λ x. x ∷ reverse (take at made)) is)

flagged_more : (n at : ℕ) (flags : List Bool) (made : List Combination) (c : Combination) (f : Bool) → at < length made → at < length flags → get_or made at c ≡ c → get_or flags at false ≡ f →
    flagged n (drop at flags) (drop at made) ≡ (if f then (n, c) ∷ flagged (n + 1) (drop (at + 1) flags) (drop (at + 1) made) else flagged (n + 1) (drop (at + 1) flags) (drop (at + 1) made))
flagged_more n at flags made c f within inside is flag = rw (drop_more made at c within, drop_more flags at false inside, is, flag) refl

pub kept_more : (n : ℕ) (c : Combination) (cs : List Combination) (needed : List ℕ) (after : List (ℕ × Combination)) (g : ℕ) (f : Bool) → n + length cs ≡ g → is_among needed g ≡ f →
    kept n (c ∷ cs) needed after ≡ (if f then kept n cs (c.i ∷ c.j ∷ needed) ((g, c) ∷ after) else kept n cs needed after)
kept_more n c cs needed after g f number among = rw (number, among) refl

-- the combinations from place `at` on that have flags are made of rows that are there
abbrev pub IsClosedFrom : ℕ → ℕ → List Bool → List Combination → Type 0
IsClosedFrom n at flags made =
    (k : ℕ) (d : Combination) → at ≤ k → k < length made → get_or flags k false ≡ true → IsThere n flags (get_or made k d).i × IsThere n flags (get_or made k d).j

pub keeping_start : (n : ℕ) (flags : List Bool) (made : List Combination) (needed : List ℕ) → length flags ≡ length made → AreFlags n flags needed →
    IsKeeping n (length made) flags made needed
keeping_start n flags made needed long are = record {
  now = needed;
  agree = λ k within. are k (omega arith);
  same = rw (take_all (length made) made (omega arith), drop_all (length made) flags (omega arith)) refl;
}

pub keeping_end : (n : ℕ) (flags : List Bool) (made : List Combination) (needed : List ℕ) → IsKeeping n 0 flags made needed →
    flagged n flags made ≡ kept n (reverse made) needed []
keeping_end n flags made needed h = ap (λ m. flagged m flags made) (omega arith) ∙ h.same

keeping_at : (n at : ℕ) (flags : List Bool) (made : List Combination) (c : Combination) (needed now : List ℕ) (f : Bool) → at < length made → at < length flags → get_or made at c ≡ c →
    is_among now (n + at) ≡ f →
    kept n (reverse (take (at + 1) made)) now (flagged (n + (at + 1)) (drop (at + 1) flags) (drop (at + 1) made)) ≡ kept n (reverse made) needed [] →
    (if f then kept n (reverse (take at made)) (c.i ∷ c.j ∷ now) ((n + at, c) ∷ flagged (n + at + 1) (drop (at + 1) flags) (drop (at + 1) made))
    else kept n (reverse (take at made)) now (flagged (n + at + 1) (drop (at + 1) flags) (drop (at + 1) made))) ≡ kept n (reverse made) needed []
keeping_at n at flags made c needed now f within inside is among same =
    let short : length (reverse (take at made)) ≡ at = omega (arith, length-reverse (take at made), length-take at made) in
    let more = kept_more n c (reverse (take at made)) now (flagged (n + at + 1) (drop (at + 1) flags) (drop (at + 1) made)) (n + at) f (omega arith) among in
    let next : n + (at + 1) ≡ n + at + 1 = omega arith in
    sym more ∙ (ap (λ cs. kept n cs now (flagged (n + at + 1) (drop (at + 1) flags) (drop (at + 1) made))) (sym (reverse_more made at c within is))
    ∙ (ap (λ m. kept n (reverse (take (at + 1) made)) now (flagged m (drop (at + 1) flags) (drop (at + 1) made))) (sym next) ∙ same))

-- a combination whose flag is set, and the flags of its rows are set
pub keeping_turn : (n at next : ℕ) (flags more : List Bool) (made : List Combination) (c : Combination) (needed : List ℕ) → next ≡ at + 1 → at < length made → at < length flags →
    get_or made at c ≡ c → c.i < n + at → c.j < n + at → get_or flags at false ≡ true → more ≡ marked n (marked n flags c.i) c.j →
    IsKeeping n next flags made needed → IsKeeping n at more made needed
keeping_turn n at next flags more made c needed step within inside is first second flag marks h =
    let g : IsKeeping n (at + 1) flags made needed = subst (λ m. IsKeeping n m flags made needed) step h in
    let same = keeping_at n at flags made c needed g.now true within inside is (sym (g.agree at (omega arith)) ∙ flag) g.same in
    let dropped : drop at more ≡ drop at flags =
    ap (drop at) marks ∙ (drop-marked n (marked n flags c.i) c.j at second ∙ drop-marked n flags c.i at first) in
    record {
      now = c.i ∷ c.j ∷ g.now;
      agree = λ k below. ap (λ fs. get_or fs k false) marks ∙ (marked_twice n flags c.i c.j k (omega arith)
          ∙ ap (λ b. (c.i == (n + k)) || ((c.j == (n + k)) || b)) (g.agree k (omega arith)));
      same = ap (λ fs. kept n (reverse (take at made)) (c.i ∷ c.j ∷ g.now) (flagged (n + at) fs (drop at made))) dropped
          ∙ (ap (kept n (reverse (take at made)) (c.i ∷ c.j ∷ g.now)) (flagged_more (n + at) at flags made c true within inside is flag) ∙ same);
    }

-- a combination whose flag is not set
pub keeping_skip : (n at next : ℕ) (flags : List Bool) (made : List Combination) (needed : List ℕ) → next ≡ at + 1 → at < length made → at < length flags →
    get_or flags at false ≡ false → IsKeeping n next flags made needed → IsKeeping n at flags made needed
keeping_skip n at next flags made needed step within inside flag h =
    let g : IsKeeping n (at + 1) flags made needed = subst (λ m. IsKeeping n m flags made needed) step h in
    let c : Combination = get_or made at (record { p = 0; i = 0; q = 0; j = 0 }) in
    let is : get_or made at c ≡ c = get_or_default made at c (record { p = 0; i = 0; q = 0; j = 0 }) within in
    let same = keeping_at n at flags made c needed g.now false within inside is (sym (g.agree at (omega arith)) ∙ flag) g.same in
    record {
      now = g.now;
      agree = λ k below. g.agree k (omega arith);
      same = ap (kept n (reverse (take at made)) g.now) (flagged_more (n + at) at flags made c false within inside is flag) ∙ same;
    }

-- a flag that is set stays so
stays : (n : ℕ) (flags : List Bool) (row k : ℕ) → get_or flags k false ≡ true → get_or (marked n flags row) k false ≡ true
stays n flags row k flag =
    ⊎_elim
    (λ within. marked_flag n flags row k within ∙ or_right (row == (n + k)) (get_or flags k false) flag)
    (λ past. absurd (false≢true (sym (get_or_past flags k false past) ∙ flag)))
    (cases_lt k (length flags))

stays_there : (n : ℕ) (flags : List Bool) (row other : ℕ) → IsThere n flags row → IsThere n (marked n flags other) row
stays_there n flags row other there = λ made. stays n flags other (row - n) (there made)

there-marked : (n : ℕ) (flags : List Bool) (row : ℕ) → row < n + length flags → IsThere n (marked n flags row) row
there-marked n flags row below = λ made.
    marked_flag n flags row (row - n) (omega arith) ∙ or_left (row == (n + (row - n))) (get_or flags (row - n) false) (eq-eqb row (n + (row - n)) (omega arith))

pub closed_turn : (n at next : ℕ) (flags more : List Bool) (made : List Combination) (c : Combination) → next ≡ at + 1 → length flags ≡ length made → at < length made →
    get_or made at c ≡ c → c.i < n + at → c.j < n + at → more ≡ marked n (marked n flags c.i) c.j →
    IsClosedFrom n next flags made → IsClosedFrom n at more made
closed_turn n at next flags more made c step long within is first second marks closed = λ k d from to flag.
    let f : get_or (marked n (marked n flags c.i) c.j) k false ≡ true = ap (λ fs. get_or fs k false) (sym marks) ∙ flag in
    let P : List Bool → Type 0 = λ fs. IsThere n fs (get_or made k d).i × IsThere n fs (get_or made k d).j in
    subst P (sym marks)
    (⊎_elim
    (λ here.
    let same : c ≡ get_or made k d = sym is ∙ (get_or_default made at c d within ∙ ap (λ m. get_or made m d) (sym here)) in
    let Q : Combination → Type 0 = λ e. IsThere n (marked n (marked n flags c.i) c.j) e.i × IsThere n (marked n (marked n flags c.i) c.j) e.j in
    subst Q same
    (stays_there n (marked n flags c.i) c.i c.j (there-marked n flags c.i (omega arith)), there-marked n (marked n flags c.i) c.j (omega (arith, length-marked n flags c.i))))
    (λ later.
    let before : get_or flags k false ≡ true = sym (or_false (ne_eqb c.i (n + k) (omega arith)) (ne_eqb c.j (n + k) (omega arith)) (get_or flags k false)) ∙ (sym (marked_twice n flags c.i c.j k (omega arith)) ∙ f) in
    let h = closed k d (omega arith) to before in
    (stays_there n (marked n flags c.i) _ c.j (stays_there n flags _ c.i h.0), stays_there n (marked n flags c.i) _ c.j (stays_there n flags _ c.i h.1)))
    (cases_eq k at))
  where
    or_false : {a b : Bool} → a ≡ false → b ≡ false → (x : Bool) → (a || (b || x)) ≡ x
    or_false p q x = rw (p, q) refl

pub closed_skip : (n at next : ℕ) (flags : List Bool) (made : List Combination) → next ≡ at + 1 → get_or flags at false ≡ false →
    IsClosedFrom n next flags made → IsClosedFrom n at flags made
closed_skip n at next flags made step unset closed = λ k d from to flag.
    closed k d (⊎_elim (λ here. absurd (false≢true (sym unset ∙ (ap (λ m. get_or flags m false) (sym here) ∙ flag)))) (λ later. omega arith) (cases_eq k at)) to flag
