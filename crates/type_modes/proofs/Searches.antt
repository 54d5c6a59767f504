-- The first item that passes a test, by what is left of a list: of lists one behind the other, and of two lists side by side.
use Rattle.std.proofs.Common.{◌≡◌, ◌∙◌, ℕ, ◌+◌, ◌<◌, ◌≤◌, Bool, false, cond, List, ◌∷◌, ◌++◌, drop, get_or, length, min, None, Some, ap, sym, inl, inr, arith}
use Rattle.std.proofs.lemmas.List.{at_drop_more, length-drop, nil_from_length}
use Rattle.std.proofs.lemmas.List.Folds.{find-append}
use Rattle.std.proofs.lemmas.Option.{slice_get_cases}
use Rattle.std.proofs.lemmas.Slice.Zip.{length-zip}
use Rattle.std.specs.List.{find, flat_map, zip}
use Rattle.std.specs.Option.{option_or}

-- ---- one list behind the other

pub found_first : {X : Type 0} (p : X → Bool) (xs ys : List X) (x : X) → Some x ≡ find p xs → Some x ≡ find p (xs ++ ys)
found_first p xs ys x is = ap (λ o. option_or o (find p ys)) is ∙ sym (find-append p xs ys)

pub found_second : {X : Type 0} (p : X → Bool) (xs ys : List X) → None ≡ find p xs → find p (xs ++ ys) ≡ find p ys
found_second p xs ys is = find-append p xs ys ∙ ap (λ o. option_or o (find p ys)) (sym is)

parts_at : {X Y : Type 0} (p : Y → Bool) (f : X → List Y) (xs : List X) (k : ℕ) (x : X) → k < length xs → x ≡ get_or xs k x
    → find p (flat_map f (drop k xs)) ≡ find p (f x ++ flat_map f (drop (k + 1) xs))
parts_at p f xs k x below at =
    at_drop_more (λ ys. find p (flat_map f ys)) xs k x below
    ∙ ap (λ y. find p (f y ++ flat_map f (drop (k + 1) xs))) (sym at)

pub part_found : {X Y : Type 0} (p : Y → Bool) (f : X → List Y) (xs : List X) (k : ℕ) (x : X) (y : Y) → k < length xs → x ≡ get_or xs k x
    → Some y ≡ find p (f x) → Some y ≡ find p (flat_map f (drop k xs))
part_found p f xs k x y below at is = found_first p (f x) (flat_map f (drop (k + 1) xs)) y is ∙ sym (parts_at p f xs k x below at)

pub part_passed : {X Y : Type 0} (p : Y → Bool) (f : X → List Y) (xs : List X) (k : ℕ) (x : X) → k < length xs → x ≡ get_or xs k x
    → None ≡ find p (f x) → find p (flat_map f (drop k xs)) ≡ find p (flat_map f (drop (k + 1) xs))
part_passed p f xs k x below at is = parts_at p f xs k x below at ∙ found_second p (f x) (flat_map f (drop (k + 1) xs)) is

-- ---- two lists side by side

module _ {X Y : Type 0} (p : (X × Y) → Bool) (xs : List X) (ys : List Y) (k : ℕ) where
  pub beside : (x : X) (y : Y) (b : Bool) → k < length xs → k < length ys → x ≡ get_or xs k x → y ≡ get_or ys k y → b ≡ p (x, y)
      → find p (zip (drop k xs) (drop k ys)) ≡ cond b (Some (x, y)) (find p (zip (drop (k + 1) xs) (drop (k + 1) ys)))
  beside x y b first second here there is =
      let rest = λ (z : X × Y). find p (z ∷ zip (drop (k + 1) xs) (drop (k + 1) ys)) in
      at_drop_more (λ firsts. find p (zip firsts (drop k ys))) xs k x first
      ∙ at_drop_more (λ seconds. find p (zip (get_or xs k x ∷ drop (k + 1) xs) seconds)) ys k y second
      ∙ ap (λ a. rest (a, get_or ys k y)) (sym here)
      ∙ ap (λ c. rest (x, c)) (sym there)
      ∙ ap (λ c. cond c (Some (x, y)) (find p (zip (drop (k + 1) xs) (drop (k + 1) ys)))) (sym is)

  pub beside_passed : (x : X) → k < length xs → k < length ys → x ≡ get_or xs k x → ((y : Y) → false ≡ p (x, y))
      → find p (zip (drop k xs) (drop k ys)) ≡ find p (zip (drop (k + 1) xs) (drop (k + 1) ys))
  beside_passed x first second here fails =
      elim (slice_get_cases ys k).1 [
        | inl w ↦ beside x w.0 false first w.1 here (sym w.3) (fails w.0)
        | inr w ↦ absurd (omega (arith, second, w.0))
      ]

  pub beside_ended : min (length xs) (length ys) ≤ k → find p (zip (drop k xs) (drop k ys)) ≡ None
  beside_ended past =
      let first = length-drop k xs in
      let second = length-drop k ys in
      let both = length-zip (drop k xs) (drop k ys) in
      ap (find p) (nil_from_length (zip (drop k xs) (drop k ys)) (omega (arith, past, first, second, both)))
