-- What sums of products are worth.
use Rattle.std.proofs.Common.{◌≡◌, ◌∙◌, sym, ap, refl, subst, ℤ, pos, ◌+ℤ◌, ◌*ℤ◌, Bool, true, false, List, [], ◌∷◌, map, if◌then◌else◌, arith}
use Rattle.std.specs.List.{AllByRecursion}
use Rattle.std.proofs.lemmas.Bool.{and_parts, cond_both, false≢true, false_from_ne_true}
use Rattle.std.proofs.lemmas.Int.{ints}
use Rattle.math_terms.specs.declared.term.Term.{Term}
use Rattle.math_terms.specs.Descriptors.{Interpretation, value}
use Rattle.math_terms.specs.Heads.{same_term}
use Rattle.math_terms.specs.Laws.{SameTermsAreEqual}
use Rattle.math_terms.specs.Meaning.{Valuation}
use Rattle.math_terms.specs.Values.{number}
use Rattle.num_theory.specs.declared.number.Number.{Number}
use Rattle.num_theory.specs.Number.{exact, is_narrow, is_zero, sum}
use Rattle.num_theory.specs.Linear.{Product, RawProduct, add_product, add_products, are_zero, exact_product, insert_product, narrow_products, scaled, shown, text_before}
use Rattle.num_theory.specs.Laws.{sum_of_products}
use Rattle.num_theory.specs.Texts.{text}
use Rattle.num_theory.proofs.Integers.{exact_sum, exact_times, sum_times, times_sum, times_times, zero_exact}
use Rattle.num_theory.proofs.Placing.{shown-cons}

-- no product has this atom
abbrev pub IsFresh : {A : Type 0} → Term → List (A × Term) → Type 0
IsFresh t ps = AllByRecursion (λ p. same_term t p.1 ≡ false) ps

-- no two products have one atom
abbrev pub IsDistinct : {A : Type 0} → List (A × Term) → Type 0
IsDistinct [] = Unit {0}
IsDistinct (p ∷ ps) = IsFresh p.1 ps × IsDistinct ps

-- the products of this atom are narrow
abbrev pub IsOpenAt : Term → List RawProduct → Type 0
IsOpenAt t ps = AllByRecursion (λ p. same_term t p.1 ≡ true → is_narrow p.0 ≡ true) ps

abbrev pub IsOpen : List RawProduct → List RawProduct → Type 0
IsOpen ps qs = AllByRecursion (λ q. IsOpenAt q.1 ps) qs

open_at : (t : Term) (ps : List RawProduct) → narrow_products ps ≡ true → IsOpenAt t ps
open_at t [] h = tt
open_at t (p ∷ ps) h =
    let parts = and_parts (is_narrow p.0) (narrow_products ps) h in
    (λ e. parts.0, open_at t ps parts.1)

pub open_all : (ps qs : List RawProduct) → narrow_products ps ≡ true → IsOpen ps qs
open_all ps [] h = tt
open_all ps (q ∷ qs) h = (open_at q.1 ps h, open_all ps qs h)

module _ (law : SameTermsAreEqual) where
  pub same_around : (t u : Term) → same_term t u ≡ false → same_term u t ≡ false
  same_around t u e = false_from_ne_true (same_term u t) (λ f. absurd (false≢true (sym e ∙ (law t u).1 (sym ((law u t).0 f)))))

  -- an atom that is not another is not what is the same as the other
  apart : (t u v : Term) → same_term t u ≡ false → same_term u v ≡ true → same_term t v ≡ true → ⊥
  apart t u v e f g = false≢true (sym e ∙ (law t u).1 ((law t v).0 g ∙ sym ((law u v).0 f)))

  fresh_add : (t : Term) (p : RawProduct) (qs : List RawProduct) → same_term t p.1 ≡ false → IsFresh t qs → IsFresh t (add_product p qs)
  fresh_add t p [] e fresh = (e, tt)
  fresh_add t p (q ∷ qs) e fresh =
      elim (same_term p.1 q.1) as (λ b. IsFresh t (if b then (sum q.0 p.0, q.1) ∷ qs else q ∷ add_product p qs))
      [ true ↦ (fresh.0, fresh.1) | false ↦ (fresh.0, fresh_add t p qs e fresh.1) ]

  distinct_add : (p : RawProduct) (qs : List RawProduct) → IsDistinct qs → IsDistinct (add_product p qs)
  distinct_add p [] all = (tt, tt)
  distinct_add p (q ∷ qs) all = by_test (same_term p.1 q.1) refl (distinct_add p qs all.1)
    where
      by_test : (b : Bool) → same_term p.1 q.1 ≡ b → IsDistinct (add_product p qs) → IsDistinct (if b then (sum q.0 p.0, q.1) ∷ qs else q ∷ add_product p qs)
      by_test true e rest = all
      by_test false e rest = (fresh_add q.1 p qs (same_around p.1 q.1 e) all.0, rest)

  pub distinct_adds : (ps qs : List RawProduct) → IsDistinct ps → IsDistinct (add_products ps qs)
  distinct_adds ps [] all = all
  distinct_adds ps (q ∷ qs) all = distinct_adds (add_product q ps) qs (distinct_add q ps all)

  open_add : (t : Term) (p : RawProduct) (qs : List RawProduct) → same_term t p.1 ≡ false → IsOpenAt t qs → IsOpenAt t (add_product p qs)
  open_add t p [] e opened = (λ f. absurd (false≢true (sym e ∙ f)), tt)
  open_add t p (q ∷ qs) e opened = by_test (same_term p.1 q.1) refl (open_add t p qs e opened.1)
    where
      by_test : (b : Bool) → same_term p.1 q.1 ≡ b → IsOpenAt t (add_product p qs) → IsOpenAt t (if b then (sum q.0 p.0, q.1) ∷ qs else q ∷ add_product p qs)
      by_test true f rest = (λ g. absurd (apart t p.1 q.1 e f g), opened.1)
      by_test false f rest = (opened.0, rest)

  open_adds : (p : RawProduct) (ps qs : List RawProduct) → IsFresh p.1 qs → IsOpen ps qs → IsOpen (add_product p ps) qs
  open_adds p ps [] fresh opened = tt
  open_adds p ps (q ∷ qs) fresh opened =
      (open_add q.1 p ps (same_around p.1 q.1 fresh.0) opened.0, open_adds p ps qs fresh.1 opened.1)

  fresh_insert : (t : Term) (p : Product) (qs : List Product) → same_term t p.1 ≡ false → IsFresh t qs → IsFresh t (insert_product p qs)
  fresh_insert t p [] e fresh = (e, tt)
  fresh_insert t p (q ∷ qs) e fresh =
      elim (text_before (text p.1) (text q.1)) as (λ b. IsFresh t (if b then p ∷ q ∷ qs else q ∷ insert_product p qs))
      [ true ↦ (e, fresh) | false ↦ (fresh.0, fresh_insert t p qs e fresh.1) ]

  distinct_insert : (p : Product) (qs : List Product) → IsFresh p.1 qs → IsDistinct qs → IsDistinct (insert_product p qs)
  distinct_insert p [] fresh all = (tt, tt)
  distinct_insert p (q ∷ qs) fresh all =
      elim (text_before (text p.1) (text q.1)) as (λ b. IsDistinct (if b then p ∷ q ∷ qs else q ∷ insert_product p qs))
      [ true ↦ (fresh, all) | false ↦ (fresh_insert q.1 p qs (same_around p.1 q.1 fresh.0) all.0, distinct_insert p qs fresh.1 all.1) ]

  fresh_shown : (t : Term) (ps : List RawProduct) → IsFresh t ps → IsFresh t (shown ps)
  fresh_shown t [] fresh = tt
  fresh_shown t (p ∷ ps) fresh =
      subst (IsFresh t) (sym (shown-cons p ps))
      (cond_both (is_zero p.0) (shown ps) (insert_product (exact_product p) (shown ps)) (IsFresh t) (λ _. fresh_shown t ps fresh.1)
      (λ _. fresh_insert t (exact_product p) (shown ps) fresh.0 (fresh_shown t ps fresh.1)))

  pub distinct_shown : (ps : List RawProduct) → IsDistinct ps → IsDistinct (shown ps)
  distinct_shown [] all = tt
  distinct_shown (p ∷ ps) all =
      subst IsDistinct (sym (shown-cons p ps))
      (cond_both (is_zero p.0) (shown ps) (insert_product (exact_product p) (shown ps)) IsDistinct (λ _. distinct_shown ps all.1)
      (λ _. distinct_insert (exact_product p) (shown ps) (fresh_shown p.1 ps all.0) (distinct_shown ps all.1)))

  module _ (I : Interpretation) (w : Valuation) where
    abbrev worth_of : Term → ℤ
    worth_of t = number (value I w t)

    abbrev total : List RawProduct → ℤ
    total ps = sum_of_products I w (map exact_product ps)

    add_value : (p : RawProduct) (qs : List RawProduct) → is_narrow p.0 ≡ true → IsOpenAt p.1 qs → total (add_product p qs) ≡ total qs +ℤ exact p.0 *ℤ worth_of p.1
    add_value p [] small opened = around (exact p.0 *ℤ worth_of p.1)
      where
        around : (x : ℤ) → x +ℤ pos 0 ≡ pos 0 +ℤ x
        around x = omega (arith, ints)
    add_value p (q ∷ qs) small opened = by_test (same_term p.1 q.1) refl (add_value p qs small opened.1)
      where
        before : (x y z : ℤ) → (x +ℤ y) +ℤ z ≡ (x +ℤ z) +ℤ y
        before x y z = omega (arith, ints)

        after : (x y z : ℤ) → x +ℤ (y +ℤ z) ≡ (x +ℤ y) +ℤ z
        after x y z = omega (arith, ints)

        by_test : (b : Bool) → same_term p.1 q.1 ≡ b → total (add_product p qs) ≡ total qs +ℤ exact p.0 *ℤ worth_of p.1 →
            total (if b then (sum q.0 p.0, q.1) ∷ qs else q ∷ add_product p qs) ≡ (exact q.0 *ℤ worth_of q.1 +ℤ total qs) +ℤ exact p.0 *ℤ worth_of p.1
        by_test true e rest =
            ap (λ c. c *ℤ worth_of q.1 +ℤ total qs) (exact_sum q.0 p.0 (opened.0 e) small)
            ∙ ap (λ c. c +ℤ total qs) (times_sum (exact q.0) (exact p.0) (worth_of q.1))
            ∙ before (exact q.0 *ℤ worth_of q.1) (exact p.0 *ℤ worth_of q.1) (total qs)
            ∙ ap (λ t. (exact q.0 *ℤ worth_of q.1 +ℤ total qs) +ℤ exact p.0 *ℤ worth_of t) (sym ((law p.1 q.1).0 e))
        by_test false e rest = ap (λ c. exact q.0 *ℤ worth_of q.1 +ℤ c) rest ∙ after (exact q.0 *ℤ worth_of q.1) (total qs) (exact p.0 *ℤ worth_of p.1)

    -- products of distinct atoms, added to products
    pub adds_value : (ps qs : List RawProduct) → narrow_products qs ≡ true → IsDistinct qs → IsOpen ps qs → total (add_products ps qs) ≡ total ps +ℤ total qs
    adds_value ps [] small all opened = none (total ps)
      where
        none : (x : ℤ) → x ≡ x +ℤ pos 0
        none x = omega (arith, ints)
    adds_value ps (q ∷ qs) small all opened =
        let parts = and_parts (is_narrow q.0) (narrow_products qs) small in
        adds_value (add_product q ps) qs parts.1 all.1 (open_adds q ps qs all.0 opened.1)
        ∙ ap (λ x. x +ℤ total qs) (add_value q ps parts.0 opened.0)
        ∙ after (total ps) (exact q.0 *ℤ worth_of q.1) (total qs)
      where
        after : (x y z : ℤ) → (x +ℤ y) +ℤ z ≡ x +ℤ (y +ℤ z)
        after x y z = omega (arith, ints)

fresh_scaled : (t : Term) (k : Number) (ps : List RawProduct) → IsFresh t ps → IsFresh t (map (scaled k) ps)
fresh_scaled t k [] fresh = tt
fresh_scaled t k (p ∷ ps) fresh = (fresh.0, fresh_scaled t k ps fresh.1)

pub distinct_scaled : (k : Number) (ps : List RawProduct) → IsDistinct ps → IsDistinct (map (scaled k) ps)
distinct_scaled k [] all = tt
distinct_scaled k (p ∷ ps) all = (fresh_scaled p.1 k ps all.0, distinct_scaled k ps all.1)

module _ (I : Interpretation) (w : Valuation) where
  abbrev sum_at : List Product → ℤ
  sum_at ps = sum_of_products I w ps

  abbrev raw_sum : List RawProduct → ℤ
  raw_sum ps = sum_at (map exact_product ps)

  pub scaled_value : (k : Number) (ps : List RawProduct) → is_narrow k ≡ true → narrow_products ps ≡ true → raw_sum (map (scaled k) ps) ≡ exact k *ℤ raw_sum ps
  scaled_value k [] small all = none (exact k)
    where
      none : (x : ℤ) → pos 0 ≡ x *ℤ pos 0
      none x = omega (arith, ints)
  scaled_value k (p ∷ ps) small all =
      let parts = and_parts (is_narrow p.0) (narrow_products ps) all in
      let n : ℤ = number (value I w p.1) in
      (λ i. exact_times k p.0 small parts.0 i *ℤ n +ℤ scaled_value k ps small parts.1 i)
      ∙ ap (λ x. x +ℤ exact k *ℤ raw_sum ps) (times_times (exact k) (exact p.0) n)
      ∙ sym (sum_times (exact k) (exact p.0 *ℤ n) (raw_sum ps))

  pub zero_value : (ps : List RawProduct) → are_zero ps ≡ true → raw_sum ps ≡ pos 0
  zero_value [] all = refl
  zero_value (p ∷ ps) all =
      let parts = and_parts (is_zero p.0) (are_zero ps) all in
      (λ i. zero_exact p.0 parts.0 i *ℤ number (value I w p.1) +ℤ zero_value ps parts.1 i) ∙ none (number (value I w p.1))
    where
      none : (x : ℤ) → pos 0 *ℤ x +ℤ pos 0 ≡ pos 0
      none x = omega (arith, ints)

  insert_value : (p : Product) (qs : List Product) → sum_at (insert_product p qs) ≡ p.0 *ℤ number (value I w p.1) +ℤ sum_at qs
  insert_value p [] = refl
  insert_value p (q ∷ qs) = by_test (text_before (text p.1) (text q.1)) (insert_value p qs)
    where
      around : (x y z : ℤ) → x +ℤ (y +ℤ z) ≡ y +ℤ (x +ℤ z)
      around x y z = omega (arith, ints)

      by_test : (b : Bool) → sum_at (insert_product p qs) ≡ p.0 *ℤ number (value I w p.1) +ℤ sum_at qs →
          sum_at (if b then p ∷ q ∷ qs else q ∷ insert_product p qs) ≡ p.0 *ℤ number (value I w p.1) +ℤ (q.0 *ℤ number (value I w q.1) +ℤ sum_at qs)
      by_test true rest = refl
      by_test false rest = ap (λ x. q.0 *ℤ number (value I w q.1) +ℤ x) rest ∙ around (q.0 *ℤ number (value I w q.1)) (p.0 *ℤ number (value I w p.1)) (sum_at qs)

  pub shown_value : (ps : List RawProduct) → sum_at (shown ps) ≡ raw_sum ps
  shown_value [] = refl
  shown_value (p ∷ ps) = ap sum_at (shown-cons p ps) ∙ by_test (is_zero p.0) refl (shown_value ps)
    where
      none : (x y : ℤ) → y ≡ pos 0 *ℤ x +ℤ y
      none x y = omega (arith, ints)

      by_test : (b : Bool) → is_zero p.0 ≡ b → sum_at (shown ps) ≡ raw_sum ps →
          sum_at (if b then shown ps else insert_product (exact_product p) (shown ps)) ≡ exact p.0 *ℤ number (value I w p.1) +ℤ raw_sum ps
      by_test true e rest = rest ∙ none (number (value I w p.1)) (raw_sum ps) ∙ ap (λ c. c *ℤ number (value I w p.1) +ℤ raw_sum ps) (sym (zero_exact p.0 e))
      by_test false e rest = insert_value (exact_product p) (shown ps) ∙ ap (λ x. exact p.0 *ℤ number (value I w p.1) +ℤ x) rest
