-- Places of a list come once more at its end.
use Rattle.std.proofs.Common.{◌≡◌, ◌∙◌, sym, ap, refl, ℕ, zero, suc, ◌+◌, ◌-◌, ◌<◌, ◌≤◌, List, [], ◌∷◌, ◌++◌, length, take, drop, Some, slice_get, append_assoc, arith}
use Rattle.std.proofs.lemmas.Option.{same_Some}

pub get_front : (xs ys : List ℕ) (i : ℕ) → i < length xs → slice_get (xs ++ ys) i ≡ slice_get xs i
get_front [] ys i h = absurd (omega arith)
get_front (x ∷ xs) ys zero h = refl
get_front (x ∷ xs) ys (suc i) h = get_front xs ys i (omega arith)

-- one place more
take_suc : (xs : List ℕ) (n x : ℕ) → slice_get xs n ≡ Some x → take n xs ++ x ∷ [] ≡ take (suc n) xs
take_suc [] n x e = cc
take_suc (y ∷ ys) zero x e = ap (λ z. z ∷ []) (sym (same_Some y x e))
take_suc (y ∷ ys) (suc n) x e = ap (λ zs. y ∷ zs) (take_suc ys n x e)

take_next : (xs : List ℕ) (n m x : ℕ) → m ≡ n + 1 → slice_get xs n ≡ Some x → take n xs ++ x ∷ [] ≡ take m xs
take_next xs n m x e h = let next : suc n ≡ m = omega arith in take_suc xs n x h ∙ ap (λ k. take k xs) next

get_drop : (xs : List ℕ) (k n m : ℕ) → m ≡ k + n → slice_get (drop k xs) n ≡ slice_get xs m
get_drop xs zero n m e = let same : n ≡ m = omega arith in ap (slice_get xs) same
get_drop [] (suc k) n m e = refl
get_drop (x ∷ xs) (suc k) n zero e = absurd (omega arith)
get_drop (x ∷ xs) (suc k) n (suc m) e = get_drop xs k n m (omega arith)

-- the next place is put
pub repeats : (old : List ℕ) (from i x : ℕ) → from ≤ i → i < length old → slice_get (old ++ take (i - from) (drop from old)) i ≡ Some x →
    (old ++ take (i - from) (drop from old)) ++ x ∷ [] ≡ old ++ take (i + 1 - from) (drop from old)
repeats old from i x low high e =
    let here : slice_get (drop from old) (i - from) ≡ Some x =
    get_drop old from (i - from) i (omega arith) ∙ sym (get_front old (take (i - from) (drop from old)) i high) ∙ e in
    append_assoc old (take (i - from) (drop from old)) (x ∷ []) ∙ ap (λ ys. old ++ ys) (take_next (drop from old) (i - from) (i + 1 - from) x (omega arith) here)
