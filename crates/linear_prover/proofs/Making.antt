-- Each row in hand is the one of its number, and each combination makes the row of its number from rows before it.
use Rattle.std.proofs.Common.{◌≡◌, ◌∙◌, sym, ap, subst, refl, ℕ, zero, suc, ◌+◌, ◌-◌, ◌<◌, ◌≤◌, ◌^◌, true, List, [], ◌∷◌, ◌++◌, length, reverse, get_or, ℤ, Option, Some, unwrap_or, arith}
use Rattle.std.specs.List.{All}
use Rattle.std.proofs.lemmas.List.{get_or_append_left, get_or_push, length-reverse, length_push, reverse-append}
use Rattle.std.proofs.lemmas.List.Elements.{All-push, All-weaker, All-filter}
use Rattle.num_theory.specs.Lines.{is_contradiction, sum_of}
use Rattle.linear_prover.specs.declared.rows_in_hand.Combination.{Combination}
use Rattle.linear_prover.specs.Elimination.{Numbered, Search, combination, eliminate, eliminate_from, is_without, numbered_from}
use Rattle.linear_prover.specs.working.Eliminating.{IsRow}
use Rattle.linear_prover.proofs.Narrowness.{column_narrow}
use Rattle.linear_prover.proofs.Reducing.{IsRow-sum_of}
use Rattle.linear_prover.proofs.Going.{Keeps, keeps_eliminate, keeps_going, row_of}

-- the row of a number
abbrev pub row_at : List (List ℤ) → ℕ → List ℤ
row_at all g = get_or all g []

-- the row that a combination makes of rows
abbrev pub made_of : List (List ℤ) → Combination → Option (List ℤ)
made_of all c = sum_of c.p (row_at all c.i) c.q (row_at all c.j)

-- the rows of the table, and then those of the combinations, of which the last comes first
abbrev pub rows_after : List (List ℤ) → List Combination → List (List ℤ)
rows_after table [] = table
rows_after table (c ∷ cs) = rows_after table cs ++ unwrap_or (made_of (rows_after table cs) c) [] ∷ []

pub length-rows_after : (table : List (List ℤ)) (cs : List Combination) → length (rows_after table cs) ≡ length table + length cs
length-rows_after table [] = omega arith
length-rows_after table (c ∷ cs) = omega (arith, length-rows_after table cs, length_push (rows_after table cs) (unwrap_or (made_of (rows_after table cs) c) []))

-- row g is made by a combination of rows before it
pub record IsMadeAt (all : List (List ℤ)) (g : ℕ) (c : Combination) : Type 0 where
  pub first_factor : c.p < 2 ^ 31
  pub second_factor : c.q < 2 ^ 31
  pub first_row : c.i < g
  pub second_row : c.j < g
  pub made : made_of all c ≡ Some (row_at all g)

-- each combination, the last one first, makes the row of its number
abbrev pub AreMade : List (List ℤ) → ℕ → List Combination → Type 0
AreMade all n [] = Unit {0}
AreMade all n (c ∷ cs) = IsMadeAt all (n + length cs) c × AreMade all n cs

made_more : (all : List (List ℤ)) (row : List ℤ) (g : ℕ) (c : Combination) → g < length all → IsMadeAt all g c → IsMadeAt (all ++ row ∷ []) g c
made_more all row g c within h = record {
  first_factor = h.first_factor;
  second_factor = h.second_factor;
  first_row = h.first_row;
  second_row = h.second_row;
  made = ap (λ a. sum_of c.p a c.q (row_at (all ++ row ∷ []) c.j)) (get_or_append_left all (row ∷ []) [] c.i (omega (arith, h.first_row)))
      ∙ (ap (λ b. sum_of c.p (row_at all c.i) c.q b) (get_or_append_left all (row ∷ []) [] c.j (omega (arith, h.second_row)))
      ∙ (h.made ∙ ap Some (sym (get_or_append_left all (row ∷ []) [] g within))));
}

all_made_more : (all : List (List ℤ)) (row : List ℤ) (n : ℕ) (cs : List Combination) → n + length cs ≤ length all → AreMade all n cs → AreMade (all ++ row ∷ []) n cs
all_made_more all row n [] within h = tt
all_made_more all row n (c ∷ cs) within h =
    (made_more all row (n + length cs) c (omega arith) h.0, all_made_more all row n cs (omega arith) h.1)

-- the rows of the table and of the combinations so far
abbrev pub all_rows : List (List ℤ) → List Combination → List (List ℤ)
all_rows table made = rows_after table (reverse made)

-- a row in hand
pub record IsInHand (table : List (List ℤ)) (width : ℕ) (made : List Combination) (r : Numbered) : Type 0 where
  pub number : r.0 < length table + length made
  pub same : row_at (all_rows table made) r.0 ≡ r.1
  pub row : IsRow width r.1

-- the combinations and the rows in hand
pub record AreInHand (table : List (List ℤ)) (width : ℕ) (rows : List Numbered) (made : List Combination) : Type 0 where
  pub combinations : AreMade (all_rows table made) (length table) (reverse made)
  pub each : All (IsInHand table width made) rows

-- the last combination makes a contradiction
pub record IsEnding (table : List (List ℤ)) (made : List Combination) : Type 0 where
  pub some : 0 < length made
  pub combinations : AreMade (all_rows table made) (length table) (reverse made)
  pub contradiction : is_contradiction (row_at (all_rows table made) (length table + (length made - 1))) ≡ true

reverse_push : (made : List Combination) (c : Combination) → reverse (made ++ c ∷ []) ≡ c ∷ reverse made
reverse_push made c = reverse-append made (c ∷ [])

length-all_rows : (table : List (List ℤ)) (made : List Combination) → length (all_rows table made) ≡ length table + length made
length-all_rows table made = length-rows_after table (reverse made) ∙ ap (λ m. length table + m) (length-reverse made)

module _ (table : List (List ℤ)) (width : ℕ) where
  -- the rows after one more combination, which makes a row
  pushed : (made : List Combination) (c : Combination) (row : List ℤ) → made_of (all_rows table made) c ≡ Some row → all_rows table (made ++ c ∷ []) ≡ all_rows table made ++ row ∷ []
  pushed made c row is = ap (rows_after table) (reverse_push made c) ∙ ap (λ o. all_rows table made ++ unwrap_or o [] ∷ []) is

  in_hand_grows : (c : Combination) (made : List Combination) (r : Numbered) → IsInHand table width made r → IsInHand table width (made ++ c ∷ []) r
  in_hand_grows c made r h = record {
    number = omega (arith, h.number, length_push made c);
    same = ap (λ all. row_at all r.0) (ap (rows_after table) (reverse_push made c))
        ∙ (get_or_append_left (all_rows table made) (unwrap_or (made_of (all_rows table made) c) [] ∷ []) [] r.0 (omega (arith, h.number, length-all_rows table made)) ∙ h.same);
    row = h.row;
  }

  -- what a combination of two rows in hand makes
  made_of_hand : (k : ℕ) (a b : Numbered) (made : List Combination) (row : List ℤ) → IsInHand table width made a → IsInHand table width made b → row_of k a b ≡ Some row →
      made_of (all_rows table made) (combination k a b) ≡ Some row
  made_of_hand k a b made row first second is =
      ap (λ x. sum_of (combination k a b).p x (combination k a b).q (row_at (all_rows table made) b.0)) first.same
      ∙ (ap (λ y. sum_of (combination k a b).p a.1 (combination k a b).q y) second.same ∙ is)

  all_made : (k : ℕ) (a b : Numbered) (rows : List Numbered) (made : List Combination) (row : List ℤ) → IsInHand table width made a → IsInHand table width made b →
      AreInHand table width rows made → row_of k a b ≡ Some row →
      AreMade (all_rows table (made ++ combination k a b ∷ [])) (length table) (reverse (made ++ combination k a b ∷ []))
  all_made k a b rows made row first second all is =
      let c = combination k a b in
      let makes = made_of_hand k a b made row first second is in
      let A = all_rows table made in
      let short : length (reverse made) ≡ length made = length-reverse made in
      let long : length A ≡ length table + length made = length-all_rows table made in
      let old : AreMade (A ++ row ∷ []) (length table) (reverse made) = all_made_more A row (length table) (reverse made) (omega arith) all.combinations in
      let first_same : row_at (A ++ row ∷ []) a.0 ≡ row_at A a.0 = get_or_append_left A (row ∷ []) [] a.0 (omega (arith, first.number)) in
      let second_same : row_at (A ++ row ∷ []) b.0 ≡ row_at A b.0 = get_or_append_left A (row ∷ []) [] b.0 (omega (arith, second.number)) in
      let new : row_at (A ++ row ∷ []) (length table + length (reverse made)) ≡ row = get_or_push A row [] (length table + length (reverse made)) (omega arith) in
      let here : IsMadeAt (A ++ row ∷ []) (length table + length (reverse made)) c = record {
        first_factor = column_narrow k b.1 second.row.narrow;
        second_factor = column_narrow k a.1 first.row.narrow;
        first_row = omega (arith, first.number);
        second_row = omega (arith, second.number);
        made = ap (λ x. sum_of c.p x c.q (row_at (A ++ row ∷ []) b.0)) first_same ∙ (ap (λ y. sum_of c.p (row_at A a.0) c.q y) second_same ∙ (makes ∙ ap Some (sym new)));
      } in
      let P : List (List ℤ) → List Combination → Type 0 = λ rs cs. AreMade rs (length table) cs in
      subst (λ cs. P (all_rows table (made ++ c ∷ [])) cs) (sym (reverse_push made c))
      (subst (λ rs. P rs (c ∷ reverse made)) (sym (pushed made c row makes)) (here, old))

  in_hand_more : (k : ℕ) (a b : Numbered) (rows : List Numbered) (made : List Combination) (row : List ℤ) → IsInHand table width made a → IsInHand table width made b →
      AreInHand table width rows made → row_of k a b ≡ Some row → length rows < 4096 →
      AreInHand table width (rows ++ (length table + length made, row) ∷ []) (made ++ combination k a b ∷ [])
  in_hand_more k a b rows made row first second all is room =
      let c = combination k a b in
      let makes = made_of_hand k a b made row first second is in
      record {
        combinations = all_made k a b rows made row first second all is;
        each = All-push (IsInHand table width (made ++ c ∷ [])) rows (length table + length made, row)
            (All-weaker (IsInHand table width made) (IsInHand table width (made ++ c ∷ [])) (λ r h. in_hand_grows c made r h) rows all.each)
            record {
              number = omega (arith, length_push made c);
              same = ap (λ rs. row_at rs (length table + length made)) (pushed made c row makes) ∙ get_or_push (all_rows table made) row [] (length table + length made) (length-all_rows table made);
              row = IsRow-sum_of width c.p a.1 c.q b.1 row first.row second.row is;
            };
      }

  in_hand_last : (k : ℕ) (a b : Numbered) (rows : List Numbered) (made : List Combination) (row : List ℤ) → IsInHand table width made a → IsInHand table width made b →
      AreInHand table width rows made → row_of k a b ≡ Some row → length rows < 4096 → is_contradiction row ≡ true → IsEnding table (made ++ combination k a b ∷ [])
  in_hand_last k a b rows made row first second all is room ends =
      let c = combination k a b in
      let makes = made_of_hand k a b made row first second is in
      record {
        some = omega (arith, length_push made c);
        combinations = all_made k a b rows made row first second all is;
        contradiction = ap is_contradiction (ap (λ rs. row_at rs (length table + (length (made ++ c ∷ []) - 1))) (pushed made c row makes)
            ∙ get_or_push (all_rows table made) row [] (length table + (length (made ++ c ∷ []) - 1)) (omega (arith, length_push made c, length-all_rows table made))) ∙ ends;
      }

  -- what is in hand after some atoms were eliminated, or what ended it
  abbrev pub IsSound : List Combination → Search → Type 0
  IsSound made s = Keeps (AreInHand table width) (IsInHand table width) (IsEnding table) made s

  sound_eliminate : (k : ℕ) (rows : List Numbered) (made : List Combination) → AreInHand table width rows made → IsSound made (eliminate (length table) k rows made)
  sound_eliminate k rows made h =
      keeps_eliminate (length table) (AreInHand table width) (IsInHand table width) (IsEnding table) in_hand_more in_hand_last in_hand_grows k rows made h.each
      record { combinations = h.combinations; each = All-filter (is_without k) (IsInHand table width made) rows h.each }

  pub sound_from : (atoms k : ℕ) (rows : List Numbered) (made : List Combination) → AreInHand table width rows made → IsSound made (eliminate_from (length table) atoms k rows made)
  sound_from zero k rows made h = (h, λ r g. g)
  sound_from (suc atoms) k rows made h =
      keeps_going (AreInHand table width) (IsInHand table width) (IsEnding table) made (eliminate (length table) k rows made) (eliminate_from (length table) atoms (k + 1))
      (sound_eliminate k rows made h) (λ rows' made' h' later. sound_from atoms (k + 1) rows' made' h')

pub length-numbered_from : (m : ℕ) (rows : List (List ℤ)) → length (numbered_from m rows) ≡ length rows
length-numbered_from m [] = refl
length-numbered_from m (row ∷ rows) = ap suc (length-numbered_from (m + 1) rows)

numbered_at : (m : ℕ) (rows : List (List ℤ)) (k : ℕ) (d : Numbered) → k < length rows → get_or (numbered_from m rows) k d ≡ (m + k, row_at rows k)
numbered_at m [] k d within = absurd (omega arith)
numbered_at m (row ∷ rows) zero d within = ap (λ g. (g, row)) (omega arith)
numbered_at m (row ∷ rows) (suc k) d within = numbered_at (m + 1) rows k d (omega arith) ∙ ap (λ g. (g, row_at rows k)) (omega arith)

-- the rows of the table are in hand at the start
pub start_in_hand : (table : List (List ℤ)) (width : ℕ) → All (IsRow width) table → AreInHand table width (numbered_from 0 table) []
start_in_hand table width rows = record {
  combinations = tt;
  each = λ k d within.
      let inside : k < length table = omega (arith, length-numbered_from 0 table) in
      subst (IsInHand table width []) (sym (numbered_at 0 table k d inside))
      record { number = omega arith; same = ap (row_at table) (omega arith); row = rows k [] inside };
}
