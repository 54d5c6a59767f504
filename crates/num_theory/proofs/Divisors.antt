-- Euclid's remainders end at the greatest common divisor.
use Rattle.std.proofs.Common.{◌≡◌, ℕ, zero, suc, ◌≤◌, ◌%◌, List, [], ◌∷◌, fold, ℤ, unsigned_abs, refl, arith}
use Rattle.std.specs.Int.{IsGcd, ◌∣◌}
use Rattle.std.proofs.lemmas.Nat.Gcd.{dvd_refl, dvd-zero, dvd_trans, IsGcd-from_zero, IsGcd-from_mod, same_from_IsGcd}
use Rattle.num_theory.specs.Rows.{gcd_within, gcd, divisor, coefficients, DividesAll, IsGreatestDivisor}

pub gcd_within-is : (steps a b : ℕ) → b ≤ steps → IsGcd a b (gcd_within steps a b)
gcd_within-is zero a b few = IsGcd-from_zero a b (omega arith)
gcd_within-is (suc steps) a zero few = IsGcd-from_zero a zero refl
gcd_within-is (suc steps) a (suc b) few =
    IsGcd-from_mod a (suc b) _ (gcd_within-is steps (suc b) (a % suc b) (omega arith))

pub gcd-is : (a b : ℕ) → IsGcd a b (gcd a b)
unfolding gcd
gcd-is a b = gcd_within-is b a b (omega arith)

pub gcd-from_IsGcd : (a b g : ℕ) → IsGcd a b g → g ≡ gcd a b
gcd-from_IsGcd a b g is = same_from_IsGcd a b g (gcd a b) is (gcd-is a b)

-- a running divisor of numbers divides where it began and each number, and every common divisor of these divides it
pub running_divisor : (g : ℕ) (zs : List ℤ) →
    let r = fold (λ g z. gcd g (unsigned_abs z)) g zs in
    (r ∣ g) × DividesAll r zs × ((d : ℕ) → d ∣ g → DividesAll d zs → d ∣ r)
running_divisor g [] = (dvd_refl g, tt, λ d start all. start)
running_divisor g (z ∷ zs) =
    let here = gcd-is g (unsigned_abs z) in
    let rest = running_divisor (gcd g (unsigned_abs z)) zs in
    (dvd_trans _ rest.0 here.0, (dvd_trans _ rest.0 here.1, rest.1), λ d start all. rest.2 d (here.2 d start all.0) all.1)

pub divisor-is : (row : List ℤ) → IsGreatestDivisor (divisor row) (coefficients row)
divisor-is row =
    let all = running_divisor 0 (coefficients row) in
    (all.1, λ d each. all.2 d (dvd-zero d) each)
