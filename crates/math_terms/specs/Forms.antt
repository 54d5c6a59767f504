-- The forms of nodes: their numbers, how many children they have, and how strongly they hold them together.
use Rattle.std.specs.Prelude.{ℕ, Option, Some, None}
use Rattle.math_terms.specs.declared.form.Form.{Form}
use Rattle.math_terms.specs.declared.form.Form.TheVariants.{Num, Truth, MinInt, MaxInt, Var, Add, Sub, Mul, Div, Mod, Len, Empty, Single, Cat, Reverse, Part, Tuple, Proj, Eq, Less, LessEq, Not, And, Or, Implies, Initial}
use Rattle.math_terms.specs.declared.term.Term.TheOpen.{Term-F}

-- the form of a node
abbrev pub form : {A : Type 0} → Term-F A → Form
form (Term-F.Num n) = Num
form (Term-F.Truth b) = Truth
form Term-F.MinInt = MinInt
form Term-F.MaxInt = MaxInt
form (Term-F.Var k) = Var
form (Term-F.Add a b) = Add
form (Term-F.Sub a b) = Sub
form (Term-F.Mul a b) = Mul
form (Term-F.Div a b) = Div
form (Term-F.Mod a b) = Mod
form (Term-F.Len a) = Len
form Term-F.Empty = Empty
form (Term-F.Single a) = Single
form (Term-F.Cat a b) = Cat
form (Term-F.Reverse a) = Reverse
form (Term-F.Part i j a) = Part
form (Term-F.Tuple parts) = Tuple
form (Term-F.Proj k a) = Proj
form (Term-F.Eq a b) = Eq
form (Term-F.Less a b) = Less
form (Term-F.LessEq a b) = LessEq
form (Term-F.Not a) = Not
form (Term-F.And a b) = And
form (Term-F.Or a b) = Or
form (Term-F.Implies a b) = Implies
form (Term-F.Initial k a) = Initial

-- the forms in the order in which `Term` lists them, from 0
abbrev pub form_number : Form → ℕ
form_number Num = 0
form_number Truth = 1
form_number MinInt = 2
form_number MaxInt = 3
form_number Var = 4
form_number Add = 5
form_number Sub = 6
form_number Mul = 7
form_number Div = 8
form_number Mod = 9
form_number Len = 10
form_number Empty = 11
form_number Single = 12
form_number Cat = 13
form_number Reverse = 14
form_number Part = 15
form_number Tuple = 16
form_number Proj = 17
form_number Eq = 18
form_number Less = 19
form_number LessEq = 20
form_number Not = 21
form_number And = 22
form_number Or = 23
form_number Implies = 24
form_number Initial = 25

-- how many children a node has, where its form tells: a tuple has any number of them
abbrev pub arity : Form → Option ℕ
arity Num = Some 0
arity Truth = Some 0
arity MinInt = Some 0
arity MaxInt = Some 0
arity Var = Some 0
arity Len = Some 1
arity Empty = Some 0
arity Single = Some 1
arity Reverse = Some 1
arity Part = Some 3
arity Tuple = None
arity Proj = Some 1
arity Not = Some 1
arity Initial = Some 1
arity f = Some 2

-- How strongly a form holds its parts together in a text: implies 0, or 1, and 2, not 3, comparisons 4, o 5, sums 6,
-- products 7, and 9 where nothing that stands beside it can take a part away.
abbrev pub strength : Form → ℕ
strength Implies = 0
strength Or = 1
strength And = 2
strength Not = 3
strength Eq = 4
strength Less = 4
strength LessEq = 4
strength Cat = 5
strength Add = 6
strength Sub = 6
strength Mul = 7
strength Div = 7
strength Mod = 7
strength f = 9
