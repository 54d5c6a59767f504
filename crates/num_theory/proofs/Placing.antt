-- Products in the order of their texts.
use Rattle.std.proofs.Common.{◌≡◌, ◌∙◌, sym, ap, refl, ℕ, suc, ◌+◌, ltb, Bool, true, false, not, cond, List, [], ◌∷◌, ◌++◌, ◌&&◌, append_assoc, length, map, filter, take, drop, insert, position, Some, None, if◌then◌else◌, arith}
use Rattle.std.specs.List.{position_or_len, list_all}
use Rattle.std.proofs.lemmas.Bool.{ltb-false, and_parts}
use Rattle.std.proofs.lemmas.List.{map-append, take-map, drop-map, take-append-drop}
use Rattle.std.proofs.lemmas.List.Folds.{list_all-append}
use Rattle.std.proofs.Math.Seq.{take-append_seam, drop-append_seam}
use Rattle.std.proofs.lemmas.List.Sums.{prefix_len-le-length}
use Rattle.num_theory.specs.Number.{is_zero}
use Rattle.num_theory.specs.Linear.{Product, RawProduct, exact_product, insert_product, in_text_order, shown, text_before}
use Rattle.num_theory.specs.working.Making.{text_of_product}

-- where the first element is that passes, if one does
pub position-Some_place : {X : Type 0} (p : X → Bool) (xs : List X) (k : ℕ) → position p xs ≡ Some k → k ≡ position_or_len p xs
position-Some_place p xs k found = by_test (ltb (position_or_len p xs) (length xs)) found
  where
    by_test : (b : Bool) → cond b (Some (position_or_len p xs)) None ≡ Some k → k ≡ position_or_len p xs
    by_test true e = cc
    by_test false e = cc

pub position-None_place : {X : Type 0} (p : X → Bool) (xs : List X) → position p xs ≡ None → length xs ≡ position_or_len p xs
position-None_place p xs none =
    let past = ltb-false (position_or_len p xs) (length xs) (by_test (ltb (position_or_len p xs) (length xs)) none) in
    omega (arith, prefix_len-le-length (λ x. not (p x)) xs)
  where
    by_test : (b : Bool) → cond b (Some (position_or_len p xs)) None ≡ None → b ≡ false
    by_test true e = cc
    by_test false e = refl

pub map_insert : {X Y : Type 0} (f : X → Y) (xs : List X) (k : ℕ) (x : X) → insert (map f xs) k (f x) ≡ map f (insert xs k x)
map_insert f xs k x =
    (λ i. take-map f k xs i ++ (f x ∷ drop-map f k xs i)) ∙ sym (map-append f (take k xs) (x ∷ drop k xs))

pub place_in_texts : (p : Product) (qs : List Product) →
    position_or_len (text_before (text_of_product p)) (map text_of_product qs) ≡ position_or_len (λ q. text_before (text_of_product p) (text_of_product q)) qs
place_in_texts p [] = refl
place_in_texts p (q ∷ qs) = ap (λ n. cond (not (text_before (text_of_product p) (text_of_product q))) (1 + n) 0) (place_in_texts p qs)

pub insert_product-at : (p : Product) (qs : List Product) →
    insert qs (position_or_len (λ q. text_before (text_of_product p) (text_of_product q)) qs) p ≡ insert_product p qs
insert_product-at p [] = refl
insert_product-at p (q ∷ qs) = by_test (text_before (text_of_product p) (text_of_product q)) (insert_product-at p qs)
  where
    n : ℕ
    n = position_or_len (λ q. text_before (text_of_product p) (text_of_product q)) qs

    by_test : (b : Bool) → insert qs (position_or_len (λ q. text_before (text_of_product p) (text_of_product q)) qs) p ≡ insert_product p qs →
        insert (q ∷ qs) (cond (not b) (1 + position_or_len (λ q. text_before (text_of_product p) (text_of_product q)) qs) 0) p ≡ (if b then p ∷ q ∷ qs else q ∷ insert_product p qs)
    by_test true rest = refl
    by_test false rest =
        let one_more : 1 + n ≡ suc n = omega arith in
        rw one_more (ap (λ rs. q ∷ rs) rest)

-- what is left of products and what is taken, where the last of those that were left is taken
pub popped : {X : Type 0} (xs ys : List X) (x : X) (n : ℕ) → take n xs ≡ ys ++ x ∷ [] →
    (ys ≡ take (length ys) xs) × (drop (length ys) xs ≡ x ∷ drop n xs)
popped xs ys x n last =
    let whole : xs ≡ ys ++ (x ∷ drop n xs) = sym (take-append-drop n xs) ∙ ap (λ zs. zs ++ drop n xs) last ∙ append_assoc ys (x ∷ []) (drop n xs) in (
      sym (ap (take (length ys)) whole ∙ take-append_seam ys (x ∷ drop n xs)),
      ap (drop (length ys)) whole ∙ drop-append_seam ys (x ∷ drop n xs),
    )

-- all pass, and so does the last of some
pub last_passes : {X : Type 0} (p : X → Bool) (xs ys : List X) (x : X) (n : ℕ) → list_all p xs ≡ true → take n xs ≡ ys ++ x ∷ [] → p x ≡ true
last_passes p xs ys x n all last =
    let front = and_parts (list_all p (take n xs)) (list_all p (drop n xs)) (sym (list_all-append p (take n xs) (drop n xs)) ∙ ap (list_all p) (take-append-drop n xs) ∙ all) in
    let parts = and_parts (list_all p ys) (p x && true) (sym (list_all-append p ys (x ∷ [])) ∙ ap (list_all p) (sym last) ∙ front.0) in
    (and_parts (p x) true parts.1).0

pub shown-cons : (p : RawProduct) (ps : List RawProduct) → shown (p ∷ ps) ≡ (if is_zero p.0 then shown ps else insert_product (exact_product p) (shown ps))
shown-cons p ps =
    elim (is_zero p.0) as (λ b. in_text_order (map exact_product (cond (not b) (p ∷ filter (λ q. not (is_zero q.0)) ps) (filter (λ q. not (is_zero q.0)) ps))) ≡ (if b then shown ps else insert_product (exact_product p) (shown ps)))
    [ true ↦ refl | false ↦ refl ]
