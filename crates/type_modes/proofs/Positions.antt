-- The first place at which a test passes, by what is left of a list.
use Rattle.std.proofs.Common.{◌≡◌, ◌∙◌, ℕ, ◌+◌, ◌<◌, Bool, true, false, not, List, drop, get_or, length, None, Some, cond, ltb, ap, sym, inl, inr, arith}
use Rattle.std.proofs.lemmas.Bool.Decides.{nat_tests}
use Rattle.std.proofs.lemmas.List.{at_drop_more}
use Rattle.std.proofs.lemmas.Option.{slice_get_cases}
use Rattle.std.specs.List.{position, position_or_len, slice_get}
use Rattle.std.specs.Option.{option_map_or}

position_is : {X : Type 0} (p : X → Bool) (xs : List X) (k : ℕ) → position_or_len p xs ≡ k → k < length xs → position p xs ≡ Some k
position_is p xs k is below =
    let test : ltb k (length xs) ≡ true = grind (arith, nat_tests) in
    ap (λ n. cond (ltb n (length xs)) (Some n) None) is ∙ ap (λ b. cond b (Some k) None) test

-- what is left, from the item of number k on
rest_at : {X : Type 0} (p : X → Bool) (xs : List X) (k : ℕ) (x : X) (b : Bool) → k < length xs → get_or xs k x ≡ x → p x ≡ b
    → position_or_len p (drop k xs) ≡ cond (not b) (1 + position_or_len p (drop (k + 1) xs)) 0
rest_at p xs k x b below at is =
    at_drop_more (position_or_len p) xs k x below
    ∙ ap (λ y. cond (not (p y)) (1 + position_or_len p (drop (k + 1) xs)) 0) at
    ∙ ap (λ c. cond (not c) (1 + position_or_len p (drop (k + 1) xs)) 0) is

pub position_here : {X : Type 0} (p : X → Bool) (xs : List X) (k : ℕ) → position_or_len p xs ≡ k + position_or_len p (drop k xs) → option_map_or p (slice_get xs k) false ≡ true → position p xs ≡ Some k
position_here p xs k so passes =
    elim (slice_get_cases xs k).1 [
      | inl w ↦
          let own : p w.0 ≡ true = ap (λ o. option_map_or p o false) (sym w.2) ∙ passes in
          let rest = rest_at p xs k w.0 true w.1 w.3 own in
          position_is p xs k (omega (arith, so, rest)) w.1
      | inr w ↦
          let fails : false ≡ true = ap (λ o. option_map_or p o false) (sym w.1) ∙ passes in
          absurd (cc)
    ]

pub position_later : {X : Type 0} (p : X → Bool) (xs : List X) (k : ℕ) → position_or_len p xs ≡ k + position_or_len p (drop k xs) → k < length xs → option_map_or p (slice_get xs k) false ≡ false
    → position_or_len p xs ≡ (k + 1) + position_or_len p (drop (k + 1) xs)
position_later p xs k so below fails =
    elim (slice_get_cases xs k).1 [
      | inl w ↦
          let own : p w.0 ≡ false = ap (λ o. option_map_or p o false) (sym w.2) ∙ fails in
          let rest = rest_at p xs k w.0 false w.1 w.3 own in
          omega (arith, so, rest)
      | inr w ↦ absurd (omega (arith, below, w.0))
    ]
