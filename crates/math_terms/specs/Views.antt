-- Terms seen by their heads.
use Rattle.math_terms.specs.declared.term.Term.{Term}
use Rattle.math_terms.specs.declared.term.Term.TheOpen.{Term-F}
use Rattle.math_terms.specs.declared.view.Binary.{Binary}
use Rattle.math_terms.specs.declared.view.Binary.TheVariants.{Add, Sub, Mul, Div, Mod, Cat, Eq, Less, LessEq, And, Or, Implies}
use Rattle.math_terms.specs.declared.view.Unary.{Unary}
use Rattle.math_terms.specs.declared.view.Unary.TheVariants.{Len, Single, Reverse, Not}
use Rattle.math_terms.specs.declared.view.View.{View}
use Rattle.math_terms.specs.declared.view.View.TheVariants.{Num, Truth, MinInt, MaxInt, Var, Empty, One, Two, Part, Tuple, Proj, Initial}

-- the nodes with two children and with one
abbrev pub binary_node : {A : Type 0} → Binary → A → A → Term-F A
binary_node Add a b = Term-F.Add a b
binary_node Sub a b = Term-F.Sub a b
binary_node Mul a b = Term-F.Mul a b
binary_node Div a b = Term-F.Div a b
binary_node Mod a b = Term-F.Mod a b
binary_node Cat a b = Term-F.Cat a b
binary_node Eq a b = Term-F.Eq a b
binary_node Less a b = Term-F.Less a b
binary_node LessEq a b = Term-F.LessEq a b
binary_node And a b = Term-F.And a b
binary_node Or a b = Term-F.Or a b
binary_node Implies a b = Term-F.Implies a b

abbrev pub unary_node : {A : Type 0} → Unary → A → Term-F A
unary_node Len a = Term-F.Len a
unary_node Single a = Term-F.Single a
unary_node Reverse a = Term-F.Reverse a
unary_node Not a = Term-F.Not a

-- the node that a view shows
abbrev pub node_of : View → Term-F Term
node_of (Num n) = Term-F.Num n
node_of (Truth b) = Term-F.Truth b
node_of MinInt = Term-F.MinInt
node_of MaxInt = Term-F.MaxInt
node_of (Var k) = Term-F.Var k
node_of Empty = Term-F.Empty
node_of (One op a) = unary_node op a.now
node_of (Two op a b) = binary_node op a.now b.now
node_of (Part i j a) = Term-F.Part i.now j.now a.now
node_of (Tuple parts) = Term-F.Tuple parts.now
node_of (Proj k a) = Term-F.Proj k a.now
node_of (Initial k a) = Term-F.Initial k a.now
