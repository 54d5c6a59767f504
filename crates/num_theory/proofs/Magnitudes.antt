-- Bounds on products, and the greatest magnitude of a row that grows.
use Rattle.std.proofs.Common.{◌≡◌, ℕ, ◌+◌, ◌-◌, ◌*◌, ◌^◌, ◌<◌, ◌≤◌, max, List, length, get_or, take, ℤ, pos, negsuc, ◌*ℤ◌, ◌+ℤ◌, to_z, of_z, unsigned_abs, SFits, w32, w64, ltb, true, refl, ap, ◌∙◌, arith, lit<}
use Rattle.std.proofs.lemmas.Int.{unsigned_abs-mul, fits_signed_mul, to_z-of_z, ints}
use Rattle.std.proofs.lemmas.Nat.{mul-le}
use Rattle.std.proofs.lemmas.List.{take_more}
use Rattle.std.proofs.lemmas.List.Recursion.{max_push}
use Rattle.std.proofs.lemmas.Bool.{and_parts, ltb-true}
use Rattle.num_theory.specs.Rows.{greatest, narrow}

pub magnitude_bound : (x : ℤ) → SFits w32 x → unsigned_abs x ≤ 2 ^ 31
magnitude_bound (pos n) f = omega (arith, f.sfits)
magnitude_bound (negsuc n) f = omega (arith, f.sfits)

pub product_bound : (p : ℕ) (x : ℤ) → p < 2 ^ 31 → SFits w32 x → unsigned_abs (pos p *ℤ x) < 2 ^ 62
product_bound p x below f =
    let bound : p * unsigned_abs x ≤ (2 ^ 31 - 1) * 2 ^ 31 = mul-le p (unsigned_abs x) (2 ^ 31 - 1) (2 ^ 31) (omega arith) (magnitude_bound x f) in
    rw unsigned_abs-mul (omega (arith, bound))

pub product_fits : (p : ℕ) (x : ℤ) → p < 2 ^ 31 → SFits w32 x → SFits w64 (pos p *ℤ x)
product_fits p x below f =
    fits_signed_mul w64 (pos p) x (2 ^ 31) (2 ^ 31) (omega arith) (magnitude_bound x f) (lit< tt)

pub greatest_more : (zs : List ℤ) (i : ℕ) → i < length zs →
    greatest (take (i + 1) zs) ≡ max (greatest (take i zs)) (unsigned_abs (get_or zs i (pos 0)))
greatest_more zs i within =
    ap greatest (take_more zs i (pos 0) within) ∙ max_push greatest unsigned_abs refl (λ _ _. refl) (take i zs) (get_or zs i (pos 0))

pub narrow_fits : (z : ℤ) → narrow z ≡ true → SFits w32 z
narrow_fits (pos n) h = record { sfits = omega (arith, ltb-true n 2147483648 h) }
narrow_fits (negsuc n) h = record { sfits = omega (arith, ltb-true n 2147483647 (and_parts (ltb n 2147483647) true h).0) }

-- a sum of two numbers of 64 bits that turns out narrow, as the code computes it
pub narrow_sum : (r s : ℤ) → SFits w64 r → SFits w64 s → SFits w64 (r +ℤ s) →
    narrow (to_z w64 (of_z w64 (to_z w64 (of_z w64 r) +ℤ to_z w64 (of_z w64 s)))) ≡ true →
    (to_z w32 (of_z w32 (to_z w64 (of_z w64 (to_z w64 (of_z w64 r) +ℤ to_z w64 (of_z w64 s))))) ≡ r +ℤ s) × (narrow (r +ℤ s) ≡ true)
narrow_sum r s fr fs both small =
    let below : narrow (r +ℤ s) ≡ true = simp to_z-of_z at small in
    let fits : SFits w32 (r +ℤ s) = narrow_fits (r +ℤ s) below in
    (simp to_z-of_z, below)

pub sum_fits : (r s : ℤ) → unsigned_abs r < 2 ^ 62 → unsigned_abs s < 2 ^ 62 → SFits w64 (r +ℤ s)
sum_fits r s hr hs = omega (arith, ints)
