-- Lists of bytes, item by item.
use Rattle.std.proofs.Common.{◌≡◌, ℕ, ◌+◌, ◌<◌, ◌≤◌, ◌↔◌, Bool, true, false, ◌||◌, eqb, List, [], ◌∷◌, drop, get_or, length, refl, sym, ap, ◌∙◌, subst, arith}
use Rattle.std.proofs.lemmas.Bool.{and_parts, and_from, eqb-true, eq-eqb, true≢false, false_from_ne_true}
use Rattle.std.proofs.lemmas.List.{at_drop_more, at_drop_all}
use Rattle.std.specs.List.{list_any}
use Rattle.res_lexer.specs.Pieces.{first_passes, same_bytes}

pub same_from_test : (xs ys : List ℕ) → same_bytes xs ys ≡ true → xs ≡ ys
same_from_test [] [] h = refl
same_from_test [] (y ∷ ys) h = absurd (true≢false (sym h))
same_from_test (x ∷ xs) [] h = absurd (true≢false (sym h))
same_from_test (x ∷ xs) (y ∷ ys) h =
    let both = and_parts (eqb x y) (same_bytes xs ys) h in
    let head = eqb-true x y both.0 in
    let tail = same_from_test xs ys both.1 in
    cc

same_as_itself : (xs : List ℕ) → same_bytes xs xs ≡ true
same_as_itself [] = refl
same_as_itself (x ∷ xs) = and_from (eqb x x) (same_bytes xs xs) (eq-eqb x x refl) (same_as_itself xs)

pub same_is : (r : Bool) (a b : List ℕ) → (r ≡ true) ↔ (a ≡ b) → r ≡ same_bytes a b
same_is true a b iff = sym (subst (λ x. same_bytes a x ≡ true) (iff.0 refl) (same_as_itself a))
same_is false a b iff = sym (false_from_ne_true (same_bytes a b) (λ e. true≢false (sym (iff.1 (same_from_test a b e)))))

-- a test of each item, up to one that passes
pub any_here : {A : Type 0} (p : A → Bool) (xs : List A) (i : ℕ) (d : A) → i < length xs → list_any p xs ≡ list_any p (drop i xs) → p (get_or xs i d) ≡ true → list_any p xs ≡ true
any_here p xs i d below so passes =
    so ∙ at_drop_more (list_any p) xs i d below ∙ ap (λ b. b || list_any p (drop (i + 1) xs)) passes

pub any_later : {A : Type 0} (p : A → Bool) (xs : List A) (i : ℕ) (d : A) → i < length xs → list_any p xs ≡ list_any p (drop i xs) → p (get_or xs i d) ≡ false → list_any p xs ≡ list_any p (drop (i + 1) xs)
any_later p xs i d below so fails =
    so ∙ at_drop_more (list_any p) xs i d below ∙ ap (λ b. b || list_any p (drop (i + 1) xs)) fails

pub any_none : {A : Type 0} (p : A → Bool) (xs : List A) (i : ℕ) → list_any p xs ≡ list_any p (drop i xs) → length xs ≤ i → list_any p xs ≡ false
any_none p xs i so end = so ∙ at_drop_all (list_any p) xs i end

-- the first byte
pub first_is : (test : ℕ → Bool) (rest : List ℕ) → 0 < length rest → first_passes test rest ≡ test (get_or rest 0 0)
first_is test [] some = absurd (omega (arith, some))
first_is test (b ∷ bs) some = refl
