-- Lists that elements give, one behind the other.
use Rattle.std.proofs.Common.{◌≡◌, ◌∙◌, sym, ap, ℕ, zero, suc, ◌+◌, ◌<◌, List, [], ◌∷◌, ◌++◌, length, drop, get_or, append_assoc, arith}
use Rattle.std.specs.List.{flat_map}
use Rattle.type_inst.specs.Descriptors.{listed}

-- the elements from a place on
pub drop_here : {A : Type 0} (xs : List A) (i : ℕ) (x : A) → i < length xs → x ≡ get_or xs i x → drop i xs ≡ x ∷ drop (i + 1) xs
drop_here [] i x h e = absurd (omega (arith, h))
drop_here (y ∷ ys) zero x h e = ap (λ z. z ∷ ys) (sym e)
drop_here (y ∷ ys) (suc i) x h e =
    let k : suc i + 1 ≡ suc (i + 1) = omega arith in
    drop_here ys i x (omega (arith, h)) e ∙ ap (λ n. x ∷ drop n (y ∷ ys)) (sym k)

-- one more element
pub listed_more : {A B : Type 0} (entry : ℕ → A → List B) (counts : A → ℕ) (out : List B) (k : ℕ) (xs : List A) (i : ℕ) (x : A) → i < length xs → x ≡ get_or xs i x →
    out ++ listed entry counts k (drop i xs) ≡ (out ++ entry k x) ++ listed entry counts (k + counts x) (drop (i + 1) xs)
listed_more entry counts out k xs i x h e =
    ap (λ ys. out ++ listed entry counts k ys) (drop_here xs i x h e) ∙ sym (append_assoc out (entry k x) (listed entry counts (k + counts x) (drop (i + 1) xs)))

pub flat_map_more : {A B : Type 0} (f : A → List B) (out : List B) (xs : List A) (i : ℕ) (x : A) → i < length xs → x ≡ get_or xs i x →
    out ++ flat_map f (drop i xs) ≡ (out ++ f x) ++ flat_map f (drop (i + 1) xs)
flat_map_more f out xs i x h e =
    ap (λ ys. out ++ flat_map f ys) (drop_here xs i x h e) ∙ sym (append_assoc out (f x) (flat_map f (drop (i + 1) xs)))
