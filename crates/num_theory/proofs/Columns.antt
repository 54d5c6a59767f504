-- Rows in columns: a row is true where its sum is, and so is the reduced row.
use Rattle.std.proofs.Common.{◌≡◌, ◌∙◌, sym, ap, refl, subst, ℕ, zero, suc, ◌-◌, ◌==◌, ℤ, pos, ◌+ℤ◌, ◌*ℤ◌, int_le, Bool, true, false, ◌||◌, cond, List, [], ◌∷◌, ◌++◌, length, map, take, if◌then◌else◌, arith}
use Rattle.std.specs.Int.{int_div_euclid, int_rem_euclid}
use Rattle.std.specs.List.{AllByRecursion, list_any}
use Rattle.std.proofs.Math.Seq.{take-append_seam}
use Rattle.std.proofs.lemmas.Bool.{or_parts, or_left, or_right, ne_eqb}
use Rattle.std.proofs.lemmas.Int.{ints}
use Rattle.std.proofs.lemmas.List.{length-append}
use Rattle.std.proofs.lemmas.List.Folds.{list_any-append}
use Rattle.math_terms.specs.declared.term.Term.{Term}
use Rattle.math_terms.specs.Descriptors.{Interpretation, value}
use Rattle.math_terms.specs.Heads.{same_term}
use Rattle.math_terms.specs.Laws.{SameTermsAreEqual}
use Rattle.math_terms.specs.Meaning.{Valuation}
use Rattle.math_terms.specs.Values.{number}
use Rattle.num_theory.specs.Laws.{SumHolds, sum_of_products, worth}
use Rattle.num_theory.specs.Linear.{Product}
use Rattle.num_theory.specs.Lines.{row_holds, total}
use Rattle.num_theory.specs.Rows.{DividesAll, coefficients, divisor, reduced}
use Rattle.num_theory.specs.Table.{Sum, coefficient, row_of, with_atom}
use Rattle.num_theory.proofs.Divisors.{divisor-is}
use Rattle.num_theory.proofs.Integers.{euclid, quotient_exact, quotient_sign, remainder_small, sum_times, times_times}
use Rattle.num_theory.proofs.Sums.{IsDistinct, IsFresh, same_around}

-- no atom stands twice
abbrev pub AreDistinct : List Term → Type 0
AreDistinct [] = Unit {0}
AreDistinct (t ∷ ts) = (list_any (same_term t) ts ≡ false) × AreDistinct ts

-- each atom of the products has a column
abbrev pub IsCovered : List Term → List Product → Type 0
IsCovered atoms ps = AllByRecursion (λ p. list_any (same_term p.1) atoms ≡ true) ps

pub total-cons : (f : ℕ → ℤ) (x : ℤ) (xs : List ℤ) (k : ℤ) → total f (x ∷ (xs ++ k ∷ [])) ≡ x *ℤ f 0 +ℤ total (λ i. f (suc i)) (xs ++ k ∷ [])
total-cons f x [] k = refl
total-cons f x (y ∷ ys) k = refl

after : (x y z : ℤ) → x +ℤ (y +ℤ z) ≡ (x +ℤ y) +ℤ z
after x y z = omega (arith, ints)

-- dividing the numbers of a row by what divides all but the last
divided_total : (n : ℕ) (f : ℕ → ℤ) (xs : List ℤ) (k : ℤ) → DividesAll (suc n) xs →
    total f (xs ++ k ∷ []) ≡ pos (suc n) *ℤ total f (map (λ z. int_div_euclid z (pos (suc n))) (xs ++ k ∷ [])) +ℤ int_rem_euclid k (pos (suc n))
divided_total n f [] k all = euclid k n
divided_total n f (x ∷ xs) k all =
    let d : ℤ = pos (suc n) in
    let q : ℤ = int_div_euclid x d in
    let r : ℤ = int_rem_euclid k d in
    let t : ℤ = total (λ i. f (suc i)) (map (λ z. int_div_euclid z d) (xs ++ k ∷ [])) in
    total-cons f x xs k
    ∙ (λ i. (quotient_exact n x all.0 i) *ℤ f 0 +ℤ divided_total n (λ j. f (suc j)) xs k all.1 i)
    ∙ ap (λ y. y +ℤ (d *ℤ t +ℤ r)) (times_times d q (f 0))
    ∙ after (d *ℤ (q *ℤ f 0)) (d *ℤ t) r
    ∙ ap (λ y. y +ℤ r) (sym (sum_times d (q *ℤ f 0) t))
    ∙ ap (λ y. d *ℤ y +ℤ r) (sym (split xs))
  where
    split : (ys : List ℤ) → total f (map (λ z. int_div_euclid z (pos (suc n))) (x ∷ (ys ++ k ∷ []))) ≡ int_div_euclid x (pos (suc n)) *ℤ f 0 +ℤ total (λ i. f (suc i)) (map (λ z. int_div_euclid z (pos (suc n))) (ys ++ k ∷ []))
    split [] = refl
    split (y ∷ ys) = refl

pub coefficients-are : (xs : List ℤ) (k : ℤ) → coefficients (xs ++ k ∷ []) ≡ xs
coefficients-are xs k =
    let size : length (xs ++ k ∷ []) - 1 ≡ length xs = omega (arith, length-append xs (k ∷ [])) in
    ap (λ n. take n (xs ++ k ∷ [])) size ∙ take-append_seam xs (k ∷ [])

-- a reduced row is true where the row is
pub reduced_holds : (f : ℕ → ℤ) (xs : List ℤ) (k : ℤ) → row_holds f (xs ++ k ∷ []) ≡ true → row_holds f (reduced (xs ++ k ∷ [])) ≡ true
reduced_holds f xs k holds = by_divisor (divisor (xs ++ k ∷ [])) (subst (DividesAll (divisor (xs ++ k ∷ []))) (coefficients-are xs k) (divisor-is (xs ++ k ∷ [])).0)
  where
    by_divisor : (d : ℕ) → DividesAll d xs → row_holds f (cond (d == 0) (xs ++ k ∷ []) (map (λ z. int_div_euclid z (pos d)) (xs ++ k ∷ []))) ≡ true
    by_divisor zero all = holds
    by_divisor (suc n) all =
        let above : (suc n == 0) ≡ false = ne_eqb (suc n) 0 (λ e. absurd (omega arith)) in
        let rest = remainder_small k n in
        rw above (quotient_sign n rest.0 (total f (map (λ z. int_div_euclid z (pos (suc n))) (xs ++ k ∷ []))) rest.2
        (ap (int_le (pos 0)) (ap (λ r. pos (suc n) *ℤ total f (map (λ z. int_div_euclid z (pos (suc n))) (xs ++ k ∷ [])) +ℤ r) (sym rest.1) ∙ sym (divided_total n f xs k all)) ∙ holds))

fresh_coefficient : (t : Term) (ps : List Product) → IsFresh t ps → coefficient t ps ≡ pos 0
fresh_coefficient t [] fresh = refl
fresh_coefficient t (p ∷ ps) fresh = rw fresh.0 (fresh_coefficient t ps fresh.1)

module _ (law : SameTermsAreEqual) where
  pub itself : (t : Term) → same_term t t ≡ true
  itself t = (law t t).1 refl

  distinct_push : (atoms : List Term) (t : Term) → AreDistinct atoms → list_any (same_term t) atoms ≡ false → AreDistinct (atoms ++ t ∷ [])
  distinct_push [] t all new = (refl, tt)
  distinct_push (a ∷ atoms) t all new =
      let parts = or_parts (same_term t a) (list_any (same_term t) atoms) new in (
        list_any-append (same_term a) atoms (t ∷ []) ∙ (λ i. all.0 i || (same_around law t a parts.0 i || false)),
        distinct_push atoms t all.1 parts.1,
      )

  pub distinct_with : (atoms : List Term) (t : Term) → AreDistinct atoms → AreDistinct (with_atom atoms t)
  distinct_with atoms t all = by_test (list_any (same_term t) atoms) refl
    where
      by_test : (b : Bool) → list_any (same_term t) atoms ≡ b → AreDistinct (if b then atoms else atoms ++ t ∷ [])
      by_test true e = all
      by_test false e = distinct_push atoms t all e

  -- an atom that has a column keeps it, and one that is added has one
  pub kept_with : (u : Term) (atoms : List Term) (t : Term) → list_any (same_term u) atoms ≡ true → list_any (same_term u) (with_atom atoms t) ≡ true
  kept_with u atoms t here = by_test (list_any (same_term t) atoms)
    where
      by_test : (b : Bool) → list_any (same_term u) (if b then atoms else atoms ++ t ∷ []) ≡ true
      by_test true = here
      by_test false = list_any-append (same_term u) atoms (t ∷ []) ∙ or_left (list_any (same_term u) atoms) (list_any (same_term u) (t ∷ [])) here

  pub added_with : (atoms : List Term) (t : Term) → list_any (same_term t) (with_atom atoms t) ≡ true
  added_with atoms t = by_test (list_any (same_term t) atoms) refl
    where
      by_test : (b : Bool) → list_any (same_term t) atoms ≡ b → list_any (same_term t) (if b then atoms else atoms ++ t ∷ []) ≡ true
      by_test true e = e
      by_test false e =
          list_any-append (same_term t) atoms (t ∷ [])
          ∙ or_right (list_any (same_term t) atoms) (list_any (same_term t) (t ∷ [])) (or_left (same_term t t) false (itself t))

  module _ (I : Interpretation) (w : Valuation) where
    abbrev worth_of : Term → ℤ
    worth_of t = number (value I w t)

    -- the sum over the columns
    dot : List Product → List Term → ℤ
    dot ps [] = pos 0
    dot ps (t ∷ ts) = coefficient t ps *ℤ worth_of t +ℤ dot ps ts

    total_columns : (ps : List Product) (atoms : List Term) (k : ℤ) →
        total (worth I w atoms) (map (λ t. coefficient t ps) atoms ++ k ∷ []) ≡ dot ps atoms +ℤ k
    unfolding dot
    total_columns ps [] k = none k
      where
        none : (x : ℤ) → x ≡ pos 0 +ℤ x
        none x = omega (arith, ints)
    total_columns ps (t ∷ ts) k =
        total-cons (worth I w (t ∷ ts)) (coefficient t ps) (map (λ u. coefficient u ps) ts) k
        ∙ ap (λ x. coefficient t ps *ℤ worth_of t +ℤ x) (total_columns ps ts k)
        ∙ after (coefficient t ps *ℤ worth_of t) (dot ps ts) k

    dot_absent : (p : Product) (ps : List Product) (atoms : List Term) → list_any (same_term p.1) atoms ≡ false → dot (p ∷ ps) atoms ≡ dot ps atoms
    unfolding dot
    dot_absent p ps [] absent = refl
    dot_absent p ps (t ∷ ts) absent =
        let parts = or_parts (same_term p.1 t) (list_any (same_term p.1) ts) absent in
        (λ i. (if same_around law p.1 t parts.0 i then p.0 else coefficient t ps) *ℤ worth_of t +ℤ dot_absent p ps ts parts.1 i)

    dot_cons : (p : Product) (ps : List Product) (atoms : List Term) → AreDistinct atoms → list_any (same_term p.1) atoms ≡ true → IsFresh p.1 ps →
        dot (p ∷ ps) atoms ≡ p.0 *ℤ worth_of p.1 +ℤ dot ps atoms
    unfolding dot
    dot_cons p ps [] all here fresh = cc
    dot_cons p ps (t ∷ ts) all here fresh = by_test (same_term t p.1) refl (dot_cons p ps ts all.1)
      where
        around : (x y z : ℤ) → x +ℤ (y +ℤ z) ≡ y +ℤ (x +ℤ z)
        around x y z = omega (arith, ints)

        none : (x y : ℤ) → y ≡ pos 0 *ℤ x +ℤ y
        none x y = omega (arith, ints)

        by_test : (b : Bool) → same_term t p.1 ≡ b → (list_any (same_term p.1) ts ≡ true → IsFresh p.1 ps → dot (p ∷ ps) ts ≡ p.0 *ℤ worth_of p.1 +ℤ dot ps ts) →
            (if b then p.0 else coefficient t ps) *ℤ worth_of t +ℤ dot (p ∷ ps) ts ≡ p.0 *ℤ worth_of p.1 +ℤ (coefficient t ps *ℤ worth_of t +ℤ dot ps ts)
        by_test true e rest =
            let is : t ≡ p.1 = (law t p.1).0 e in
            (λ i. p.0 *ℤ worth_of (is i) +ℤ dot_absent p ps ts (subst (λ u. list_any (same_term u) ts ≡ false) is all.0) i)
            ∙ ap (λ x. p.0 *ℤ worth_of p.1 +ℤ x) (none (worth_of t) (dot ps ts) ∙ ap (λ c. c *ℤ worth_of t +ℤ dot ps ts) (sym (fresh_coefficient t ps (subst (λ u. IsFresh u ps) (sym is) fresh))))
        by_test false e rest =
            let there : list_any (same_term p.1) ts ≡ true = sym (ap (λ b. b || list_any (same_term p.1) ts) (same_around law t p.1 e)) ∙ here in
            ap (λ x. coefficient t ps *ℤ worth_of t +ℤ x) (rest there fresh)
            ∙ around (coefficient t ps *ℤ worth_of t) (p.0 *ℤ worth_of p.1) (dot ps ts)

    dot_none : (atoms : List Term) → dot [] atoms ≡ pos 0
    unfolding dot
    dot_none [] = refl
    dot_none (t ∷ ts) = ap (λ x. pos 0 *ℤ worth_of t +ℤ x) (dot_none ts) ∙ none (worth_of t)
      where
        none : (x : ℤ) → pos 0 *ℤ x +ℤ pos 0 ≡ pos 0
        none x = omega (arith, ints)

    -- the sum over the columns is that of the products
    dot_is : (ps : List Product) (atoms : List Term) → AreDistinct atoms → IsDistinct ps → IsCovered atoms ps → dot ps atoms ≡ sum_of_products I w ps
    dot_is [] atoms all distinct covered = dot_none atoms
    dot_is (p ∷ ps) atoms all distinct covered =
        dot_cons p ps atoms all covered.0 distinct.0 ∙ ap (λ x. p.0 *ℤ worth_of p.1 +ℤ x) (dot_is ps atoms all distinct.1 covered.1)

    -- a row is true where its sum holds
    pub row_follows : (atoms : List Term) (s : Sum) → AreDistinct atoms → IsDistinct s.products → IsCovered atoms s.products → SumHolds I w s →
        row_holds (worth I w atoms) (row_of atoms s) ≡ true
    row_follows atoms s all distinct covered holds =
        reduced_holds (worth I w atoms) (map (λ t. coefficient t s.products) atoms) s.constant
        (ap (int_le (pos 0)) (total_columns s.products atoms s.constant ∙ ap (λ x. x +ℤ s.constant) (dot_is s.products atoms all distinct covered)) ∙ holds)
