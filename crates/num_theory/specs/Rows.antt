-- Rows of numbers. The last number of a row is its constant, those before it are its coefficients:
-- a row says that the sum of coefficients times atoms, plus the constant, is at least 0.
use Rattle.std.specs.Prelude.{ℕ, zero, suc, ◌-◌, ◌%◌, ◌==◌, max, cond, Bool, ◌&&◌, List, [], ◌∷◌, length, take, map, fold, ℤ, pos, negsuc, ◌+ℤ◌, ◌*ℤ◌, int_lt, unsigned_abs}
use Rattle.std.specs.Int.{int_div_euclid, ◌∣◌}
use Rattle.std.specs.List.{AllByRecursion, list_all}

-- p times x plus q times y
abbrev pub combined_number : ℕ → ℤ → ℕ → ℤ → ℤ
combined_number p x q y = pos p *ℤ x +ℤ pos q *ℤ y

-- p times each number of the one row plus q times that of the other, place by place, up to the end of the shorter
abbrev pub combined : ℕ → List ℤ → ℕ → List ℤ → List ℤ
combined p [] q ys = []
combined p (x ∷ xs) q [] = []
combined p (x ∷ xs) q (y ∷ ys) = combined_number p x q y ∷ combined p xs q ys

-- the magnitude is below 2 ^ 31
abbrev pub narrow : ℤ → Bool
narrow z = int_lt (negsuc 2147483647) z && int_lt z (pos 2147483648)

abbrev pub all_narrow : List ℤ → Bool
all_narrow zs = list_all narrow zs

-- the greatest magnitude, 0 for no numbers
abbrev pub greatest : List ℤ → ℕ
greatest [] = 0
greatest (z ∷ zs) = max (unsigned_abs z) (greatest zs)

-- Euclid's remainders, at most `steps` of them
abbrev pub gcd_within : ℕ → ℕ → ℕ → ℕ
gcd_within zero a b = a
gcd_within (suc steps) a zero = a
gcd_within (suc steps) a (suc b) = gcd_within steps (suc b) (a % suc b)

-- the greatest common divisor: each remainder is less than the one before, so b of them suffice
unfoldable pub gcd : ℕ → ℕ → ℕ
gcd a b = gcd_within b a b

-- all numbers but the last
abbrev pub coefficients : List ℤ → List ℤ
coefficients row = take (length row - 1) row

-- the greatest common divisor of the magnitudes of the coefficients, 0 where all are 0 or there are none
abbrev pub divisor : List ℤ → ℕ
divisor row = fold (λ g z. gcd g (unsigned_abs z)) 0 (coefficients row)

-- each number divided by the divisor and rounded down; the row itself where the divisor is 0
abbrev pub reduced : List ℤ → List ℤ
reduced row = cond (divisor row == 0) row (map (λ z. int_div_euclid z (pos (divisor row))) row)

-- d divides the magnitude of each number
abbrev pub DividesAll : ℕ → List ℤ → Type 0
DividesAll d zs = AllByRecursion (λ z. d ∣ unsigned_abs z) zs

-- g divides each number, and whatever does divides g
abbrev pub IsGreatestDivisor : ℕ → List ℤ → Type 0
IsGreatestDivisor g zs = DividesAll g zs × ((d : ℕ) → DividesAll d zs → d ∣ g)
