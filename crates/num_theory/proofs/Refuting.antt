-- Lines keep rows true, and a contradiction is true nowhere.
use Rattle.std.proofs.Common.{◌≡◌, ◌∙◌, sym, ap, refl, subst, ℕ, zero, suc, ◌+◌, ◌*◌, ◌-◌, ◌==◌, ℤ, pos, negsuc, ◌+ℤ◌, ◌*ℤ◌, int_le, int_lt, Bool, true, false, cond, List, [], ◌∷◌, ◌++◌, length, map, Option, Some, None, slice_get, slice_index_or, option_and_then, if◌then◌else◌, arith}
use Rattle.std.specs.Int.{int_div_euclid}
use Rattle.std.specs.List.{AllByRecursion, list_all}
use Rattle.std.specs.Option.{IfSome}
use Rattle.std.specs.Ordering.{int_eq}
use Rattle.std.proofs.lemmas.Bool.{and_parts, le-leb, ltb-true}
use Rattle.std.proofs.lemmas.Bool.Decides.{Decides-int_eq}
use Rattle.std.proofs.lemmas.Int.{ints}
use Rattle.std.proofs.lemmas.List.{length-append, length-map}
use Rattle.math_terms.specs.declared.name.Line.{Line}
use Rattle.num_theory.specs.Laws.{RefutedRowsClash}
use Rattle.num_theory.specs.Lines.{all_narrow, constant, ends_in_contradiction, is_contradiction, is_refuted, numbered, row_holds, sum_at, sum_by, sum_of, total, with_lines}
use Rattle.num_theory.specs.Rows.{combined, combined_number, coefficients, divisor, reduced}
use Rattle.num_theory.proofs.Columns.{coefficients-are, reduced_holds, total-cons}
use Rattle.num_theory.proofs.Elements.{all_append}
use Rattle.num_theory.proofs.Integers.{sum_times, times_sum, times_times}

-- a row with its last number apart
ends : (x : ℤ) (xs : List ℤ) → (front : List ℤ) × (last : ℤ) × (x ∷ xs ≡ front ++ last ∷ [])
ends x [] = ([], x, refl)
ends x (y ∷ ys) = let rest = ends y ys in (x ∷ rest.0, rest.1, ap (λ zs. x ∷ zs) rest.2)

reduced_true : (f : ℕ → ℤ) (row : List ℤ) → row_holds f row ≡ true → row_holds f (reduced row) ≡ true
reduced_true f [] h = refl
reduced_true f (x ∷ xs) h =
    let parts = ends x xs in
    subst (λ row. row_holds f (reduced row) ≡ true) (sym parts.2) (reduced_holds f parts.0 parts.1 (ap (row_holds f) (sym parts.2) ∙ h))

pub length-reduced : (row : List ℤ) → length (reduced row) ≡ length row
length-reduced row = by_test (divisor row == 0)
  where
    by_test : (b : Bool) → length (cond b row (map (λ z. int_div_euclid z (pos (divisor row))) row)) ≡ length row
    by_test true = refl
    by_test false = length-map row (λ z. int_div_euclid z (pos (divisor row)))

length-combined : (p : ℕ) (xs : List ℤ) (q : ℕ) (ys : List ℤ) → length xs ≡ length ys → length (combined p xs q ys) ≡ length xs
length-combined p [] q ys same = refl
length-combined p (x ∷ xs) q [] same = absurd (omega arith)
length-combined p (x ∷ xs) q (y ∷ ys) same = ap suc (length-combined p xs q ys (omega arith))

total-combined : (p : ℕ) (xs : List ℤ) (q : ℕ) (ys : List ℤ) (f : ℕ → ℤ) → length xs ≡ length ys →
    total f (combined p xs q ys) ≡ pos p *ℤ total f xs +ℤ pos q *ℤ total f ys
total-combined p [] q [] f same = none p q
  where
    none : (p q : ℕ) → pos 0 ≡ pos p *ℤ pos 0 +ℤ pos q *ℤ pos 0
    none p q = omega (arith, ints)
total-combined p [] q (y ∷ ys) f same = absurd (omega arith)
total-combined p (x ∷ xs) q [] f same = absurd (omega arith)
total-combined p (x ∷ []) q (y ∷ []) f same = refl
total-combined p (x ∷ []) q (y ∷ v ∷ ys) f same = absurd (omega arith)
total-combined p (x ∷ u ∷ xs) q (y ∷ []) f same = absurd (omega arith)
total-combined p (x ∷ u ∷ xs) q (y ∷ v ∷ ys) f same =
    let rest = total-combined p (u ∷ xs) q (v ∷ ys) (λ k. f (suc k)) (omega arith) in
    apart (f 0) (total (λ k. f (suc k)) (u ∷ xs)) (total (λ k. f (suc k)) (v ∷ ys)) _ rest
  where
    around : (a b c d : ℤ) → (a +ℤ b) +ℤ (c +ℤ d) ≡ (a +ℤ c) +ℤ (b +ℤ d)
    around a b c d = omega (arith, ints)

    apart : (a t s r : ℤ) → r ≡ pos p *ℤ t +ℤ pos q *ℤ s → combined_number p x q y *ℤ a +ℤ r ≡ pos p *ℤ (x *ℤ a +ℤ t) +ℤ pos q *ℤ (y *ℤ a +ℤ s)
    apart a t s r is =
        (λ i. times_sum (pos p *ℤ x) (pos q *ℤ y) a i +ℤ is i)
        ∙ (λ i. (times_times (pos p) x a i +ℤ times_times (pos q) y a i) +ℤ (pos p *ℤ t +ℤ pos q *ℤ s))
        ∙ around (pos p *ℤ (x *ℤ a)) (pos q *ℤ (y *ℤ a)) (pos p *ℤ t) (pos q *ℤ s)
        ∙ (λ i. sym (sum_times (pos p) (x *ℤ a) t) i +ℤ sym (sum_times (pos q) (y *ℤ a) s) i)

-- a sum of multiples of what is not negative
not_negative : (p q : ℕ) (x y : ℤ) → int_le (pos 0) x ≡ true → int_le (pos 0) y ≡ true → int_le (pos 0) (pos p *ℤ x +ℤ pos q *ℤ y) ≡ true
not_negative p q (pos m) (pos n) hx hy = le-leb 0 (p * m + q * n) (omega arith)
not_negative p q (pos m) (negsuc n) hx hy = cc
not_negative p q (negsuc m) y hx hy = cc

-- a true row of n numbers
abbrev pub IsTrueRow : ℕ → (ℕ → ℤ) → List ℤ → Type 0
IsTrueRow n f row = (length row ≡ n) × (row_holds f row ≡ true)

module _ (n : ℕ) (f : ℕ → ℤ) where
  true_sum : (p : ℕ) (a : List ℤ) (q : ℕ) (b : List ℤ) → IsTrueRow n f a → IsTrueRow n f b → IfSome (sum_of p a q b) (IsTrueRow n f)
  true_sum p a q b true_a true_b = by_test (all_narrow (combined p a q b))
    where
      same : length a ≡ length b
      same = true_a.0 ∙ sym true_b.0

      holds : row_holds f (combined p a q b) ≡ true
      holds = ap (int_le (pos 0)) (total-combined p a q b f same) ∙ not_negative p q (total f a) (total f b) true_a.1 true_b.1

      by_test : (c : Bool) → IfSome (if c then Some (reduced (combined p a q b)) else None) (IsTrueRow n f)
      by_test true = (length-reduced (combined p a q b) ∙ length-combined p a q b same ∙ true_a.0, reduced_true f (combined p a q b) holds)
      by_test false = tt

  true_sum_at : (p : ℤ) (a : Option (List ℤ)) (q : ℤ) (b : Option (List ℤ)) → IfSome a (IsTrueRow n f) → IfSome b (IsTrueRow n f) → IfSome (sum_at p a q b) (IsTrueRow n f)
  true_sum_at (pos p) (Some a) (pos q) (Some b) true_a true_b = true_sum p a q b true_a true_b
  true_sum_at (pos p) (Some a) (pos q) None true_a true_b = tt
  true_sum_at (pos p) (Some a) (negsuc q) b true_a true_b = tt
  true_sum_at (pos p) None q b true_a true_b = tt
  true_sum_at (negsuc p) a q b true_a true_b = tt

  true_at : (rows : List (List ℤ)) (k : ℕ) → AllByRecursion (IsTrueRow n f) rows → IfSome (slice_get rows k) (IsTrueRow n f)
  true_at [] k all = tt
  true_at (row ∷ rows) zero all = all.0
  true_at (row ∷ rows) (suc k) all = true_at rows k all.1

  true_numbered : (rows : List (List ℤ)) (k : ℕ) → AllByRecursion (IsTrueRow n f) rows → IfSome (numbered rows k) (IsTrueRow n f)
  true_numbered rows zero all = tt
  true_numbered rows (suc k) all = true_at rows k all

  true_lines : (ls : List Line) (rows : List (List ℤ)) → AllByRecursion (IsTrueRow n f) rows → IfSome (with_lines ls rows) (AllByRecursion (IsTrueRow n f))
  true_lines [] rows all = all
  true_lines (l ∷ ls) rows all =
      next (sum_by rows l) (true_sum_at l.p (numbered rows l.i) l.q (numbered rows l.j) (true_numbered rows l.i all) (true_numbered rows l.j all))
      (λ row is. true_lines ls (rows ++ row ∷ []) (all_append (IsTrueRow n f) rows (row ∷ []) all (is, tt)))
    where
      next : (o : Option (List ℤ)) → IfSome o (IsTrueRow n f) → ((row : List ℤ) → IsTrueRow n f row → IfSome (with_lines ls (rows ++ row ∷ [])) (AllByRecursion (IsTrueRow n f))) →
          IfSome (option_and_then (λ row. with_lines ls (rows ++ row ∷ [])) o) (AllByRecursion (IsTrueRow n f))
      next None is rest = tt
      next (Some row) is rest = rest row is

  zeros_total : (g : ℕ → ℤ) (xs : List ℤ) (k : ℤ) → list_all (λ z. int_eq z (pos 0)) xs ≡ true → total g (xs ++ k ∷ []) ≡ k
  zeros_total g [] k zeros = refl
  zeros_total g (x ∷ xs) k zeros =
      let parts = and_parts (int_eq x (pos 0)) (list_all (λ z. int_eq z (pos 0)) xs) zeros in
      total-cons g x xs k ∙ (λ i. (Decides-int_eq x (pos 0)).0 parts.0 i *ℤ g 0 +ℤ zeros_total (λ j. g (suc j)) xs k parts.1 i) ∙ none (g 0) k
    where
      none : (a b : ℤ) → pos 0 *ℤ a +ℤ b ≡ b
      none a b = omega (arith, ints)

  constant-is : (xs : List ℤ) (k : ℤ) → constant (xs ++ k ∷ []) ≡ k
  constant-is xs k =
      let size : length (xs ++ k ∷ []) - 1 ≡ length xs = omega (arith, length-append xs (k ∷ [])) in
      ap (λ i. slice_index_or (xs ++ k ∷ []) i (pos 0)) size ∙ last_at xs
    where
      last_at : (ys : List ℤ) → slice_index_or (ys ++ k ∷ []) (length ys) (pos 0) ≡ k
      last_at [] = refl
      last_at (y ∷ ys) = last_at ys

  both_signs : (x : ℤ) → int_lt x (pos 0) ≡ true → int_le (pos 0) x ≡ true → ⊥
  both_signs (pos x) below above = let none = ltb-true x 0 below in omega arith
  both_signs (negsuc x) below above = cc

  false_contradiction : (row : List ℤ) → is_contradiction row ≡ true → row_holds f row ≡ true → ⊥
  false_contradiction [] is h = cc
  false_contradiction (x ∷ xs) is h =
      let ends_at = ends x xs in
      apart ends_at.0 ends_at.1 (ap is_contradiction (sym ends_at.2) ∙ is) (ap (row_holds f) (sym ends_at.2) ∙ h)
    where
      apart : (front : List ℤ) (last : ℤ) → is_contradiction (front ++ last ∷ []) ≡ true → row_holds f (front ++ last ∷ []) ≡ true → ⊥
      apart front last is h =
          let parts = and_parts (list_all (λ z. int_eq z (pos 0)) (coefficients (front ++ last ∷ []))) (int_lt (constant (front ++ last ∷ [])) (pos 0)) is in
          let zeros = ap (list_all (λ z. int_eq z (pos 0))) (sym (coefficients-are front last)) ∙ parts.0 in
          both_signs last (ap (λ z. int_lt z (pos 0)) (sym (constant-is front last)) ∙ parts.1) (ap (int_le (pos 0)) (sym (zeros_total f front last zeros)) ∙ h)

  false_ending : (rows : List (List ℤ)) → ends_in_contradiction rows ≡ true → AllByRecursion (IsTrueRow n f) rows → ⊥
  false_ending [] is all = cc
  false_ending (row ∷ []) is all = false_contradiction row is all.0.1
  false_ending (row ∷ next ∷ rows) is all = false_ending (next ∷ rows) is all.1

  false_refutation : (o : Option (List (List ℤ))) → is_refuted o ≡ true → IfSome o (AllByRecursion (IsTrueRow n f)) → ⊥
  false_refutation None is all = cc
  false_refutation (Some rows) is all = false_ending rows is all

  true_rows : (rows : List (List ℤ)) → AllByRecursion (λ row. length row ≡ n) rows → list_all (row_holds f) rows ≡ true → AllByRecursion (IsTrueRow n f) rows
  true_rows [] long hold = tt
  true_rows (row ∷ rows) long hold =
      let parts = and_parts (row_holds f row) (list_all (row_holds f) rows) hold in
      ((long.0, parts.0), true_rows rows long.1 parts.1)

pub refuted_rows_clash : RefutedRowsClash
refuted_rows_clash n f rows lines long refuted hold = false_refutation n f (with_lines lines rows) refuted (true_lines n f lines rows (true_rows n f rows long hold))
