-- The value of a term, case by case over the function set. It is total.
use Rattle.std.specs.Prelude.{ℕ, pos, negsuc, ◌+ℤ◌, ◌-ℤ◌, ◌*ℤ◌, int_lt, int_le, Bool, not, ◌&&◌, ◌||◌, [], ◌∷◌, ◌++◌, length, reverse, ◌==◌, if◌then◌else◌}
use Rattle.math_terms.specs.declared.term.Term.{Term}
use Rattle.math_terms.specs.declared.term.Term.TheOpen.{Term-F}
use Rattle.math_terms.specs.declared.term.Term.TheFolds.{fold-Term}
use Rattle.math_terms.specs.Values.{Val, Num, Truth, string, tuple, number, truth, entries, same, quotient, remainder, between, projected}

-- a value for each variable
abbrev pub Valuation : Type 0
Valuation = ℕ → Val

-- a valuation with one variable set
abbrev pub set_to : ℕ → Val → Valuation → Valuation
set_to v value w k = if k == v then value else w k

-- One node, from the values of its children. `starts k x` is whether x is initial for type formal k.
abbrev pub value_step : (ℕ → Val → Bool) → Valuation → Term-F Val → Val
value_step starts w (Term-F.Num n) = Num n
value_step starts w (Term-F.Truth b) = Truth b
value_step starts w Term-F.MinInt = Num (negsuc 9223372036854775807)
value_step starts w Term-F.MaxInt = Num (pos 9223372036854775807)
value_step starts w (Term-F.Var k) = w k
value_step starts w (Term-F.Add a b) = Num (number a +ℤ number b)
value_step starts w (Term-F.Sub a b) = Num (number a -ℤ number b)
value_step starts w (Term-F.Mul a b) = Num (number a *ℤ number b)
value_step starts w (Term-F.Div a b) = Num (quotient (number a) (number b))
value_step starts w (Term-F.Mod a b) = Num (remainder (number a) (number b))
value_step starts w (Term-F.Len a) = Num (pos (length (entries a)))
value_step starts w Term-F.Empty = string []
value_step starts w (Term-F.Single a) = string (a ∷ [])
value_step starts w (Term-F.Cat a b) = string (entries a ++ entries b)
value_step starts w (Term-F.Reverse a) = string (reverse (entries a))
value_step starts w (Term-F.Part i j a) = string (between (number i) (number j) (entries a))
value_step starts w (Term-F.Tuple parts) = tuple parts
value_step starts w (Term-F.Proj k a) = projected k a
value_step starts w (Term-F.Eq a b) = Truth (same a b)
value_step starts w (Term-F.Less a b) = Truth (int_lt (number a) (number b))
value_step starts w (Term-F.LessEq a b) = Truth (int_le (number a) (number b))
value_step starts w (Term-F.Not a) = Truth (not (truth a))
value_step starts w (Term-F.And a b) = Truth (truth a && truth b)
value_step starts w (Term-F.Or a b) = Truth (truth a || truth b)
value_step starts w (Term-F.Implies a b) = Truth (not (truth a) || truth b)
value_step starts w (Term-F.Initial k a) = Truth (starts k a)

-- the value where `starts` tells what is initial
abbrev pub value_where : (ℕ → Val → Bool) → Valuation → Term → Val
value_where starts w t = fold-Term Val (value_step starts w) t
