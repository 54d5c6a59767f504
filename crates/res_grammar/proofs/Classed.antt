-- The class of a word, as the search among the reserved words finds it.
use Rattle.std.proofs.Common.{◌≡◌, ℕ, ◌+◌, ◌<◌, ◌≤◌, Bool, true, false, if◌then◌else◌, List, [], ◌∷◌, map, drop, get_or, length, refl, sym, subst, add-one}
use Rattle.std.proofs.Math.Seq.{drop-cons}
use Rattle.std.proofs.lemmas.Bool.{true≢false}
use Rattle.std.proofs.lemmas.List.{drop_all}
use Rattle.res_grammar.specs.Numbers.{id}
use Rattle.res_grammar.specs.Classes.{same_word, class_among}

taken : (b : Bool) (x y : ℕ) → b ≡ true → (if b then x else y) ≡ x
taken true x y e = refl
taken false x y e = absurd (true≢false (sym e))

passed_over : (b : Bool) (x y : ℕ) → b ≡ false → (if b then x else y) ≡ y
passed_over true x y e = absurd (true≢false e)
passed_over false x y e = refl

dropped : {X : Type 0} (xs : List X) (i : ℕ) (d : X) → i < length xs → drop i xs ≡ get_or xs i d ∷ drop (i + 1) xs
dropped xs i d l = rw (add-one, drop-cons xs i d) refl

pub found : {X : Type 0} (f : X → List ℕ) (xs : List X) (i : ℕ) (d : X) (class : ℕ) (word : List ℕ) → i < length xs → same_word (f (get_or xs i d)) word ≡ true → class_among class (map f (drop i xs)) word ≡ class
found {X} f xs i d class word l e =
    let P : List X → Type 0 = λ z. class_among class (map f z) word ≡ class in
    subst P (sym (dropped xs i d l)) (taken (same_word (f (get_or xs i d)) word) class (class_among (class + 1) (map f (drop (i + 1) xs)) word) e)

pub later : {X : Type 0} (f : X → List ℕ) (xs : List X) (i : ℕ) (d : X) (class : ℕ) (word : List ℕ) → i < length xs → same_word (f (get_or xs i d)) word ≡ false → class_among class (map f (drop i xs)) word ≡ class_among (class + 1) (map f (drop (i + 1) xs)) word
later {X} f xs i d class word l e =
    let P : List X → Type 0 = λ z. class_among class (map f z) word ≡ class_among (class + 1) (map f (drop (i + 1) xs)) word in
    subst P (sym (dropped xs i d l)) (passed_over (same_word (f (get_or xs i d)) word) class (class_among (class + 1) (map f (drop (i + 1) xs)) word) e)

pub through : {X : Type 0} (f : X → List ℕ) (xs : List X) (i class : ℕ) (word : List ℕ) → length xs ≤ i → class_among class (map f (drop i xs)) word ≡ id
through {X} f xs i class word l =
    let P : List X → Type 0 = λ z. class_among class (map f z) word ≡ id in
    subst P (sym (drop_all i xs l)) refl
