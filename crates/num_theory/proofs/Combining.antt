-- A combined row, place by place.
use Rattle.std.proofs.Common.{◌≡◌, sym, subst, ◌+◌, ◌==◌, Bool, false, ℕ, zero, suc, ◌<◌, List, [], ◌∷◌, length, get_or, ℤ, pos, true, refl, arith}
use Rattle.std.proofs.lemmas.Bool.{and_from, and_parts, eqb-false, eqb-true}
use Rattle.num_theory.specs.Rows.{all_narrow, combined, combined_number, narrow}

-- what stands at one place of the combined row
abbrev pub combined_at : ℕ → List ℤ → ℕ → List ℤ → ℕ → ℤ
combined_at p xs q ys j = combined_number p (get_or xs j (pos 0)) q (get_or ys j (pos 0))

pub combined-from_places : (p : ℕ) (xs : List ℤ) (q : ℕ) (ys zs : List ℤ) → length xs ≡ length ys → length zs ≡ length xs →
    ((j : ℕ) → j < length zs → get_or zs j (pos 0) ≡ combined_at p xs q ys j) → zs ≡ combined p xs q ys
combined-from_places p [] q ys [] same long each = refl
combined-from_places p [] q ys (z ∷ zs) same long each = absurd (omega arith)
combined-from_places p (x ∷ xs) q [] zs same long each = absurd (omega arith)
combined-from_places p (x ∷ xs) q (y ∷ ys) [] same long each = absurd (omega arith)
combined-from_places p (x ∷ xs) q (y ∷ ys) (z ∷ zs) same long each =
    let first : z ≡ combined_number p x q y = each 0 (omega arith) in
    let rest : zs ≡ combined p xs q ys =
    combined-from_places p xs q ys zs (omega arith) (omega arith) (λ j within. each (suc j) (omega arith)) in
    cc

pub narrow-from_places : (p : ℕ) (xs : List ℤ) (q : ℕ) (ys : List ℤ) → length xs ≡ length ys →
    ((j : ℕ) → j < length xs → narrow (combined_at p xs q ys j) ≡ true) → all_narrow (combined p xs q ys) ≡ true
narrow-from_places p [] q ys same each = refl
narrow-from_places p (x ∷ xs) q [] same each = refl
narrow-from_places p (x ∷ xs) q (y ∷ ys) same each =
    and_from (narrow (combined_number p x q y)) (all_narrow (combined p xs q ys)) (each 0 (omega arith))
    (narrow-from_places p xs q ys (omega arith) (λ j within. each (suc j) (omega arith)))

pub narrow-at : (p : ℕ) (xs : List ℤ) (q : ℕ) (ys : List ℤ) (j : ℕ) → length xs ≡ length ys → j < length xs →
    all_narrow (combined p xs q ys) ≡ true → narrow (combined_at p xs q ys j) ≡ true
narrow-at p [] q ys j same within all = absurd (omega arith)
narrow-at p (x ∷ xs) q [] j same within all = absurd (omega arith)
narrow-at p (x ∷ xs) q (y ∷ ys) zero same within all = (and_parts (narrow (combined_number p x q y)) (all_narrow (combined p xs q ys)) all).0
narrow-at p (x ∷ xs) q (y ∷ ys) (suc j) same within all =
    narrow-at p xs q ys j (omega arith) (omega arith) (and_parts (narrow (combined_number p x q y)) (all_narrow (combined p xs q ys)) all).1

-- what holds at the first k places and at the next one
pub one_more : (P : ℕ → Type 0) (k : ℕ) → ((j : ℕ) → j < k → P j) → P k → (j : ℕ) → j < k + 1 → P j
one_more P k before here j within = by_test (j == k) refl
  where
    by_test : (b : Bool) → (j == k) ≡ b → P j
    by_test true is = subst P (sym (eqb-true j k is)) here
    by_test false is = before j (omega (arith, eqb-false j k is))
