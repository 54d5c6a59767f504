-- Adding products to products.
use Rattle.std.proofs.Common.{◌≡◌, ◌∙◌, sym, ap, refl, ℕ, zero, suc, ◌+◌, ◌<◌, ◌≤◌, ltb, Bool, true, false, not, cond, List, [], ◌∷◌, ◌++◌, length, get_or, set, position, Some, None, if◌then◌else◌, arith}
use Rattle.std.specs.List.{position_or_len}
use Rattle.std.proofs.lemmas.Bool.{ltb-false}
use Rattle.std.proofs.lemmas.List.{get_or_default}
use Rattle.std.proofs.lemmas.List.Quantifiers.{position-Some}
use Rattle.math_terms.specs.declared.term.Term.{Term}
use Rattle.math_terms.specs.Heads.{same_term}
use Rattle.num_theory.specs.declared.number.Number.{Number}
use Rattle.num_theory.specs.Number.{sum}
use Rattle.num_theory.specs.Linear.{RawProduct, add_product, add_products}

abbrev pub has : Term → RawProduct → Bool
has t q = same_term t q.1

added : RawProduct → RawProduct → RawProduct
added p q = (sum q.0 p.0, q.1)

at_place : (p : RawProduct) (qs : List RawProduct) (k : ℕ) (d : RawProduct) → k < length qs → has p.1 (get_or qs k d) ≡ true →
    ((j : ℕ) → j < k → has p.1 (get_or qs j d) ≡ false) → add_product p qs ≡ set qs k (added p (get_or qs k d))
unfolding added
at_place p [] k d within here before = absurd (omega arith)
at_place p (q ∷ qs) zero d within here before = rw here refl
at_place p (q ∷ qs) (suc k) d within here before =
    let first : has p.1 q ≡ false = before 0 (omega arith) in
    rw first (ap (λ rest. q ∷ rest) (at_place p qs k d (omega arith) here (λ j below. before (suc j) (omega arith))))

-- where a product of the same atom is, which is read as x and as y
pub add_product-at : (p : RawProduct) (qs : List RawProduct) (k : ℕ) (x y : RawProduct) (n : Number) → position (has p.1) qs ≡ Some k →
    x ≡ get_or qs k x → y ≡ get_or qs k y → n ≡ sum x.0 p.0 → set qs k (n, y.1) ≡ add_product p qs
unfolding added
add_product-at p qs k x y n found first second is =
    let at = position-Some (has p.1) qs k x found in
    let same : y ≡ get_or qs k x = second ∙ get_or_default qs k y x at.0 in
    ap (set qs k) (λ i. ((is ∙ ap (λ (q : RawProduct). sum q.0 p.0) first) i, (same i).1))
    ∙ sym (at_place p qs k x at.0 at.1 at.2)

none_passes : (p : RawProduct) (qs : List RawProduct) → length qs ≤ position_or_len (has p.1) qs → add_product p qs ≡ qs ++ p ∷ []
none_passes p [] past = refl
none_passes p (q ∷ qs) past = by_test (has p.1 q) past (λ rest. none_passes p qs rest)
  where
    by_test : (b : Bool) → suc (length qs) ≤ cond (not b) (1 + position_or_len (has p.1) qs) 0 →
        (length qs ≤ position_or_len (has p.1) qs → add_product p qs ≡ qs ++ p ∷ []) →
        (if b then (sum q.0 p.0, q.1) ∷ qs else q ∷ add_product p qs) ≡ q ∷ (qs ++ p ∷ [])
    by_test true past rest = absurd (omega arith)
    by_test false past rest = ap (λ rs. q ∷ rs) (rest (omega arith))

-- where none is
pub add_product-none : (p : RawProduct) (qs : List RawProduct) → position (has p.1) qs ≡ None → add_product p qs ≡ qs ++ p ∷ []
add_product-none p qs none = none_passes p qs (ltb-false n (length qs) (not_found (ltb n (length qs)) none))
  where
    n : ℕ
    n = position_or_len (has p.1) qs

    not_found : (b : Bool) → cond b (Some n) None ≡ None → b ≡ false
    not_found true e = cc
    not_found false e = refl

pub add_products_push : (ps qs : List RawProduct) (q : RawProduct) → add_products ps (qs ++ q ∷ []) ≡ add_product q (add_products ps qs)
add_products_push ps [] q = refl
add_products_push ps (r ∷ qs) q = add_products_push (add_product r ps) qs q
