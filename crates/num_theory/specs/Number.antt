-- Numbers of linear forms: exact in 128 bits, and lost beyond.
use Rattle.std.specs.Prelude.{ℤ, pos, negsuc, ◌+ℤ◌, ◌*ℤ◌, int_le, Bool, false, ◌&&◌, if◌then◌else◌}
use Rattle.std.specs.Ordering.{int_eq}
use Rattle.num_theory.specs.declared.number.Number.{Number}
use Rattle.num_theory.specs.declared.number.Number.TheVariants.{Exact, Lost}
use Rattle.num_theory.specs.Rows.{narrow}

-- a number within 128 signed bits
abbrev pub fits : ℤ → Bool
fits z = int_le (negsuc 170141183460469231731687303715884105727) z && int_le z (pos 170141183460469231731687303715884105727)

-- an integer, lost where it does not fit
abbrev pub kept : ℤ → Number
kept z = if fits z then Exact z else Lost

-- a sum with a lost number is lost
abbrev pub sum : Number → Number → Number
sum (Exact a) (Exact b) = kept (a +ℤ b)
sum (Exact a) Lost = Lost
sum Lost b = Lost

-- an integer times a lost number
abbrev pub times_lost : ℤ → Number
times_lost z = if int_eq z (pos 0) then Exact (pos 0) else Lost

-- a product with a lost number is lost, but 0 times it is 0
abbrev pub product : Number → Number → Number
product (Exact a) (Exact b) = kept (a *ℤ b)
product (Exact a) Lost = times_lost a
product Lost (Exact b) = times_lost b
product Lost Lost = Lost

abbrev pub is_zero : Number → Bool
is_zero (Exact z) = int_eq z (pos 0)
is_zero Lost = false

-- a magnitude below 2 ^ 31
abbrev pub is_narrow : Number → Bool
is_narrow (Exact z) = narrow z
is_narrow Lost = false

-- the integer, for a number that is not lost
abbrev pub exact : Number → ℤ
exact (Exact z) = z
exact Lost = pos 0
