-- Nodes in cells, seen by their heads.
use Rattle.std.specs.Prelude.{◌≡◌, ℕ, pos, true, List, map, Option, Some, None}
use Rattle.std.specs.Ordering.{int_eq}
use Rattle.math_terms.specs.declared.form.Form.{Form}
use Rattle.math_terms.specs.declared.form.Form.TheVariants as form
use Rattle.math_terms.specs.declared.term.Term.{Term}
use Rattle.math_terms.specs.declared.term.Term.TheOpen.{Term-F}
use Rattle.math_terms.specs.declared.term.Term.TheViews.{roll-Term}
use Rattle.math_terms.specs.declared.view.Binary.TheVariants as binary
use Rattle.math_terms.specs.declared.view.Unary.TheVariants as unary
use Rattle.math_terms.specs.Views.{binary_node, unary_node}
use Rattle.term_cells.specs.declared.cell.Cell.{Cell}
use Rattle.term_cells.specs.Standing.{parts_stand, stands, stands_below}
use Rattle.term_rewriting.specs.declared.node.Node.{Node}
use Rattle.term_rewriting.specs.declared.node.Node.TheVariants.{Num, Truth, MinInt, MaxInt, Var, Empty, One, Two, Part, Tuple, Proj, Initial}

-- the node of a cell of a form
abbrev pub node_of : Form → Cell → Node
node_of form.Num c = Num c.own
node_of form.Truth c = Truth (int_eq c.own (pos 1))
node_of form.MinInt c = MinInt
node_of form.MaxInt c = MaxInt
node_of form.Var c = Var c.own
node_of form.Add c = Two binary.Add c.a c.b
node_of form.Sub c = Two binary.Sub c.a c.b
node_of form.Mul c = Two binary.Mul c.a c.b
node_of form.Div c = Two binary.Div c.a c.b
node_of form.Mod c = Two binary.Mod c.a c.b
node_of form.Len c = One unary.Len c.a
node_of form.Empty c = Empty
node_of form.Single c = One unary.Single c.a
node_of form.Cat c = Two binary.Cat c.a c.b
node_of form.Reverse c = One unary.Reverse c.a
node_of form.Part c = Part c.a c.b c.c
node_of form.Tuple c = Tuple c.a
node_of form.Proj c = Proj c.own c.a
node_of form.Eq c = Two binary.Eq c.a c.b
node_of form.Less c = Two binary.Less c.a c.b
node_of form.LessEq c = Two binary.LessEq c.a c.b
node_of form.Not c = One unary.Not c.a
node_of form.And c = Two binary.And c.a c.b
node_of form.Or c = Two binary.Or c.a c.b
node_of form.Implies c = Two binary.Implies c.a c.b
node_of form.Initial c = Initial c.own c.a

-- the term is that node, whose parts stand at its places, below the node's own
abbrev pub Shows : List Cell → ℕ → Term → Node → Type 0
Shows cells p t (Num n) = t ≡ roll-Term (Term-F.Num n)
Shows cells p t (Truth b) = t ≡ roll-Term (Term-F.Truth b)
Shows cells p t MinInt = t ≡ roll-Term Term-F.MinInt
Shows cells p t MaxInt = t ≡ roll-Term Term-F.MaxInt
Shows cells p t (Var n) = (k : ℕ) × (n ≡ pos k) × (t ≡ roll-Term (Term-F.Var k))
Shows cells p t Empty = t ≡ roll-Term Term-F.Empty
Shows cells p t (One op at) = (a : Term) × (stands_below (stands cells a) at p ≡ true) × (t ≡ roll-Term (unary_node op a))
Shows cells p t (Two op at bt) =
    (a : Term) × (b : Term) × (stands_below (stands cells a) at p ≡ true) × (stands_below (stands cells b) bt p ≡ true) × (t ≡ roll-Term (binary_node op a b))
Shows cells p t (Part it jt at) =
    (i : Term) × (j : Term) × (a : Term) × (stands_below (stands cells i) it p ≡ true) × (stands_below (stands cells j) jt p ≡ true)
    × (stands_below (stands cells a) at p ≡ true) × (t ≡ roll-Term (Term-F.Part i j a))
Shows cells p t (Tuple at) = (ts : List Term) × (parts_stand cells (map (stands cells) ts) at p ≡ true) × (t ≡ roll-Term (Term-F.Tuple ts))
Shows cells p t (Proj n at) = (k : ℕ) × (a : Term) × (n ≡ pos k) × (stands_below (stands cells a) at p ≡ true) × (t ≡ roll-Term (Term-F.Proj k a))
Shows cells p t (Initial n at) =
    (k : ℕ) × (a : Term) × (n ≡ pos k) × (stands_below (stands cells a) at p ≡ true) × (t ≡ roll-Term (Term-F.Initial k a))

abbrev pub ShowsAt : List Cell → ℕ → Term → Option Node → Type 0
ShowsAt cells p t None = ⊥
ShowsAt cells p t (Some n) = Shows cells p t n
