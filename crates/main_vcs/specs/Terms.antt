-- The terms that conditions are made of, and the descriptors of their variables.
use Rattle.std.specs.Prelude.{ℕ, ℤ, pos, negsuc, true, List, [], ◌∷◌}
use Rattle.math_terms.specs.declared.term.Term.{Term}
use Rattle.math_terms.specs.declared.term.Term.TheOpen.{Term-F}
use Rattle.math_terms.specs.declared.term.Term.TheViews.{roll-Term}
use Rattle.math_terms.specs.declared.descriptor.Desc.{Desc}
use Rattle.math_terms.specs.declared.descriptor.Shape.TheOpen.{Shape-F}
use Rattle.math_terms.specs.declared.descriptor.Shape.TheViews.{roll-Shape, roll-Desc}

abbrev pub num : ℤ → Term
num n = roll-Term (Term-F.Num n)

abbrev pub var : ℕ → Term
var k = roll-Term (Term-F.Var k)

abbrev pub min_int : Term
min_int = roll-Term Term-F.MinInt

abbrev pub max_int : Term
max_int = roll-Term Term-F.MaxInt

abbrev pub empty_string : Term
empty_string = roll-Term Term-F.Empty

abbrev pub single : Term → Term
single t = roll-Term (Term-F.Single t)

abbrev pub cat : Term → Term → Term
cat a b = roll-Term (Term-F.Cat a b)

abbrev pub len : Term → Term
len a = roll-Term (Term-F.Len a)

abbrev pub add : Term → Term → Term
add a b = roll-Term (Term-F.Add a b)

abbrev pub sub : Term → Term → Term
sub a b = roll-Term (Term-F.Sub a b)

abbrev pub equal : Term → Term → Term
equal a b = roll-Term (Term-F.Eq a b)

abbrev pub below : Term → Term → Term
below a b = roll-Term (Term-F.Less a b)

abbrev pub at_most : Term → Term → Term
at_most a b = roll-Term (Term-F.LessEq a b)

abbrev pub both : Term → Term → Term
both a b = roll-Term (Term-F.And a b)

abbrev pub either : Term → Term → Term
either a b = roll-Term (Term-F.Or a b)

abbrev pub negated : Term → Term
negated a = roll-Term (Term-F.Not a)

abbrev pub true_formula : Term
true_formula = roll-Term (Term-F.Truth true)

-- The descriptor of Integer has the bounds of 64 bits as its constraint, and 0 is initial. A stream is a string of its
-- members, and the empty string is initial.
abbrev pub integer : Desc
integer = roll-Desc (record { shape = roll-Shape Shape-F.Z; constraint = both (at_most min_int (var 0)) (at_most (var 0) max_int); initial = equal (var 0) (num (pos 0)) })

abbrev pub stream : Desc
stream = roll-Desc (record { shape = roll-Shape (Shape-F.Str integer); constraint = true_formula; initial = equal (var 0) empty_string })

-- the two bounds of a number
abbrev pub bounds : Term → List Term
bounds t = at_most min_int t ∷ at_most t max_int ∷ []

abbrev pub in_bounds : Term → Term
in_bounds t = both (at_most min_int t) (at_most t max_int)

-- the facts on the bounds of integers
abbrev pub facts : List Term
facts = at_most min_int (num (negsuc 999999999)) ∷ at_most (num (pos 1000000000)) max_int ∷ []
