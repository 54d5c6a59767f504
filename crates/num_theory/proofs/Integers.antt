-- Integers: sums of products, and numbers that are small enough to be kept as they are.
use Rattle.std.proofs.Common.{◌≡◌, ◌∙◌, ap, sym, refl, ℕ, zero, suc, ◌-◌, ◌/◌, ◌%◌, int_le, neg_ℤ, ◌+◌, ◌*◌, ◌<◌, ◌≤◌, ◌^◌, ltb, true, ℤ, pos, negsuc, ◌+ℤ◌, ◌*ℤ◌, unsigned_abs, arith}
use Rattle.std.specs.Int.{int_div_euclid, int_rem_euclid, ◌∣◌}
use Rattle.std.proofs.lemmas.Bool.{and_parts, ltb-true, le-leb, false≢true}
use Rattle.std.proofs.lemmas.Bool.Decides.{Decides-int_eq}
use Rattle.std.proofs.lemmas.Int.{ints, unsigned_abs-mul}
use Rattle.std.proofs.lemmas.Nat.{mul-le, div-add-mod', div-mul-add}
use Rattle.std.proofs.lemmas.Nat.Gcd.{mod-eq-zero_of_dvd}
use Rattle.std.proofs.Math.IntN.{*ℤ_comm}
use Rattle.std.proofs.Math.Nat.{mod-lt}
use borrow.Author.Differences.{up, down, sum_is_lem, product_is}
use Rattle.num_theory.specs.declared.number.Number.{Number}
use Rattle.num_theory.specs.declared.number.Number.TheVariants.{Exact, Lost}
use Rattle.num_theory.specs.Number.{exact, fits, is_narrow, is_zero, kept, product, sum}
use Rattle.num_theory.specs.Rows.{narrow}

-- an integer is what it is above 0 less what it is below, and a product multiplies these out
pub times_sum : (a b c : ℤ) → (a +ℤ b) *ℤ c ≡ a *ℤ c +ℤ b *ℤ c
times_sum a b c =
    let above = ap (λ x. x * up c) (sum_is_lem a b) in
    let below = ap (λ x. x * down c) (sum_is_lem a b) in
    omega (arith, ints, above, below)

pub sum_times : (k a b : ℤ) → k *ℤ (a +ℤ b) ≡ k *ℤ a +ℤ k *ℤ b
sum_times k a b = *ℤ_comm k (a +ℤ b) ∙ times_sum a b k ∙ (λ i. *ℤ_comm a k i +ℤ *ℤ_comm b k i)

pub times_times : (k a b : ℤ) → (k *ℤ a) *ℤ b ≡ k *ℤ (a *ℤ b)
times_times k a b =
    let first = product_is k a in
    let second = product_is a b in
    omega (
      arith,
      ints,
      ap (λ x. x * up b) first.0,
      ap (λ x. x * down b) first.0,
      ap (λ x. x * up b) first.1,
      ap (λ x. x * down b) first.1,
      ap (λ x. up k * x) second.0,
      ap (λ x. down k * x) second.0,
      ap (λ x. up k * x) second.1,
      ap (λ x. down k * x) second.1,
    )

pub narrow_magnitude : (z : ℤ) → narrow z ≡ true → unsigned_abs z < 2 ^ 31
narrow_magnitude (pos n) h = omega (arith, ltb-true n 2147483648 h)
narrow_magnitude (negsuc n) h = omega (arith, ltb-true n 2147483647 (and_parts (ltb n 2147483647) true h).0)

pub fits_within : (z : ℤ) → unsigned_abs z ≤ 2 ^ 62 → fits z ≡ true
fits_within (pos n) h = le-leb n 170141183460469231731687303715884105727 (omega arith)
fits_within (negsuc n) h = rw (le-leb n 170141183460469231731687303715884105727 (omega arith)) refl

kept_within : (z : ℤ) → unsigned_abs z ≤ 2 ^ 62 → exact (kept z) ≡ z
kept_within z h = rw (fits_within z h) refl

-- a sum and a product of narrow numbers
pub exact_sum : (a b : Number) → is_narrow a ≡ true → is_narrow b ≡ true → exact (sum a b) ≡ exact a +ℤ exact b
exact_sum Lost b ha hb = absurd (false≢true ha)
exact_sum (Exact a) Lost ha hb = absurd (false≢true hb)
exact_sum (Exact a) (Exact b) ha hb =
    let ma = narrow_magnitude a ha in
    let mb = narrow_magnitude b hb in
    kept_within (a +ℤ b) (omega (arith, ints))

pub exact_times : (a b : Number) → is_narrow a ≡ true → is_narrow b ≡ true → exact (product a b) ≡ exact a *ℤ exact b
exact_times Lost b ha hb = absurd (false≢true ha)
exact_times (Exact a) Lost ha hb = absurd (false≢true hb)
exact_times (Exact a) (Exact b) ha hb =
    let ma = narrow_magnitude a ha in
    let mb = narrow_magnitude b hb in
    let bound : unsigned_abs a * unsigned_abs b ≤ 2 ^ 31 * 2 ^ 31 = mul-le (unsigned_abs a) (unsigned_abs b) (2 ^ 31) (2 ^ 31) (omega arith) (omega arith) in
    kept_within (a *ℤ b) (rw unsigned_abs-mul (omega (arith, bound)))

pub zero_exact : (a : Number) → is_zero a ≡ true → exact a ≡ pos 0
zero_exact (Exact a) h = (Decides-int_eq a (pos 0)).0 h
zero_exact Lost h = refl

negated_number : (n : ℕ) → negsuc 0 *ℤ pos (suc n) ≡ negsuc n
negated_number n =
    let one : 1 * suc n ≡ suc n = omega arith in
    ap (λ m. neg_ℤ (pos m)) one

remainder_by_negated : (a : ℤ) (n : ℕ) → int_rem_euclid a (pos (suc n)) ≡ a +ℤ negsuc n *ℤ int_div_euclid a (pos (suc n))
remainder_by_negated (pos a) n = omega (arith, ints, div-add-mod' a (suc n))
remainder_by_negated (negsuc a) n =
    let below : a % suc n < suc n = mod-lt a (omega arith) in
    omega (arith, ints, div-add-mod' a (suc n))

-- Euclid's remainder by a positive number
pub remainder_is : (a : ℤ) (n : ℕ) → int_rem_euclid a (pos (suc n)) ≡ a +ℤ (negsuc 0 *ℤ pos (suc n)) *ℤ int_div_euclid a (pos (suc n))
remainder_is a n = remainder_by_negated a n ∙ ap (λ m. a +ℤ m *ℤ int_div_euclid a (pos (suc n))) (sym (negated_number n))

pub euclid : (k : ℤ) (n : ℕ) → k ≡ pos (suc n) *ℤ int_div_euclid k (pos (suc n)) +ℤ int_rem_euclid k (pos (suc n))
euclid k n =
    let e = remainder_by_negated k n in
    omega (arith, ints, e)

-- Euclid's remainder is a number below the divisor
pub remainder_small : (k : ℤ) (n : ℕ) → (r : ℕ) × (int_rem_euclid k (pos (suc n)) ≡ pos r) × (r < suc n)
remainder_small (pos a) n = (a % suc n, refl, mod-lt a (omega arith))
remainder_small (negsuc a) n = (suc n - 1 - a % suc n, refl, omega arith)

-- a number that the divisor divides
pub quotient_exact : (n : ℕ) (x : ℤ) → suc n ∣ unsigned_abs x → x ≡ pos (suc n) *ℤ int_div_euclid x (pos (suc n))
quotient_exact n (pos a) divides =
    let none : a % suc n ≡ 0 = mod-eq-zero_of_dvd (suc n) divides in
    ap pos (omega (arith, div-add-mod' a (suc n)))
quotient_exact n (negsuc a) divides =
    let none : suc a % suc n ≡ 0 = mod-eq-zero_of_dvd (suc n) divides in
    below (suc a / suc n) (omega (arith, div-add-mod' (suc a) (suc n)))
  where
    below : (q : ℕ) → q * suc n ≡ suc a → negsuc a ≡ pos (suc n) *ℤ negsuc (a / suc n)
    below zero e = absurd (omega arith)
    below (suc j) e =
        let split : a ≡ j * suc n + n = omega arith in
        let whole : a / suc n ≡ j = ap (λ m. m / suc n) split ∙ div-mul-add j (suc n) n (omega arith) in
        let product : suc a ≡ suc n * suc j = omega arith in
        ap (λ m. neg_ℤ (pos m)) product ∙ ap (λ m. pos (suc n) *ℤ negsuc m) (sym whole)

-- a multiple that is not negative after a remainder is added
pub quotient_sign : (n r : ℕ) (t : ℤ) → r < suc n → int_le (pos 0) (pos (suc n) *ℤ t +ℤ pos r) ≡ true → int_le (pos 0) t ≡ true
quotient_sign n r (pos t) small h = le-leb 0 t (omega arith)
quotient_sign n r (negsuc t) small h =
    let wide : r < suc n * suc t = omega (arith, mul-le (suc n) 1 (suc n) (suc t) (omega arith) (omega arith)) in
    absurd (omega (arith, ints))
