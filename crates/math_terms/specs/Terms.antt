-- Terms as trees: their size, and substitution.
use Rattle.std.specs.Prelude.{ℕ, ◌+◌, ◌==◌, ◌<◌, min, Bool, true, ◌&&◌, sum, if◌then◌else◌}
use Rattle.std.specs.List.{list_all}
use Rattle.math_terms.specs.declared.name.TermError.{TermError}
use Rattle.math_terms.specs.declared.name.TermError.TheVariants.{TooLarge, SortClash, NoMemory}
use Rattle.math_terms.specs.declared.term.Term.{Term}
use Rattle.math_terms.specs.declared.term.Term.TheOpen.{Term-F}
use Rattle.math_terms.specs.declared.term.Term.TheViews.{roll-Term}
use Rattle.math_terms.specs.declared.term.Term.TheFolds.{fold-Term}

-- how many nodes a term has
abbrev pub nodes_step : Term-F ℕ → ℕ
nodes_step (Term-F.Num n) = 1
nodes_step (Term-F.Truth b) = 1
nodes_step Term-F.MinInt = 1
nodes_step Term-F.MaxInt = 1
nodes_step (Term-F.Var k) = 1
nodes_step (Term-F.Add a b) = 1 + a + b
nodes_step (Term-F.Sub a b) = 1 + a + b
nodes_step (Term-F.Mul a b) = 1 + a + b
nodes_step (Term-F.Div a b) = 1 + a + b
nodes_step (Term-F.Mod a b) = 1 + a + b
nodes_step (Term-F.Len a) = 1 + a
nodes_step Term-F.Empty = 1
nodes_step (Term-F.Single a) = 1 + a
nodes_step (Term-F.Cat a b) = 1 + a + b
nodes_step (Term-F.Reverse a) = 1 + a
nodes_step (Term-F.Part i j a) = 1 + i + j + a
nodes_step (Term-F.Tuple parts) = 1 + sum parts
nodes_step (Term-F.Proj k a) = 1 + a
nodes_step (Term-F.Eq a b) = 1 + a + b
nodes_step (Term-F.Less a b) = 1 + a + b
nodes_step (Term-F.LessEq a b) = 1 + a + b
nodes_step (Term-F.Not a) = 1 + a
nodes_step (Term-F.And a b) = 1 + a + b
nodes_step (Term-F.Or a b) = 1 + a + b
nodes_step (Term-F.Implies a b) = 1 + a + b
nodes_step (Term-F.Initial k a) = 1 + a

abbrev pub nodes : Term → ℕ
nodes t = fold-Term ℕ nodes_step t

-- how many nodes a term has where each variable v counts as n
abbrev pub nodes_with_step : ℕ → ℕ → Term-F ℕ → ℕ
nodes_with_step v n (Term-F.Var k) = if k == v then n else 1
nodes_with_step v n x = nodes_step x

abbrev pub nodes_with : ℕ → ℕ → Term → ℕ
nodes_with v n t = fold-Term ℕ (nodes_with_step v n) t

-- the same count, which stops at most + 1
abbrev pub count_step : ℕ → ℕ → ℕ → Term-F ℕ → ℕ
count_step v n most x = min (nodes_with_step v n x) (most + 1)

abbrev pub count_up_to : ℕ → ℕ → ℕ → Term → ℕ
count_up_to v n most t = fold-Term ℕ (count_step v n most) t

-- `by` for each variable v
abbrev pub put_step : ℕ → Term → Term-F Term → Term
put_step v by (Term-F.Num n) = roll-Term (Term-F.Num n)
put_step v by (Term-F.Truth b) = roll-Term (Term-F.Truth b)
put_step v by Term-F.MinInt = roll-Term Term-F.MinInt
put_step v by Term-F.MaxInt = roll-Term Term-F.MaxInt
put_step v by (Term-F.Var k) = if k == v then by else roll-Term (Term-F.Var k)
put_step v by (Term-F.Add a b) = roll-Term (Term-F.Add a b)
put_step v by (Term-F.Sub a b) = roll-Term (Term-F.Sub a b)
put_step v by (Term-F.Mul a b) = roll-Term (Term-F.Mul a b)
put_step v by (Term-F.Div a b) = roll-Term (Term-F.Div a b)
put_step v by (Term-F.Mod a b) = roll-Term (Term-F.Mod a b)
put_step v by (Term-F.Len a) = roll-Term (Term-F.Len a)
put_step v by Term-F.Empty = roll-Term Term-F.Empty
put_step v by (Term-F.Single a) = roll-Term (Term-F.Single a)
put_step v by (Term-F.Cat a b) = roll-Term (Term-F.Cat a b)
put_step v by (Term-F.Reverse a) = roll-Term (Term-F.Reverse a)
put_step v by (Term-F.Part i j a) = roll-Term (Term-F.Part i j a)
put_step v by (Term-F.Tuple parts) = roll-Term (Term-F.Tuple parts)
put_step v by (Term-F.Proj k a) = roll-Term (Term-F.Proj k a)
put_step v by (Term-F.Eq a b) = roll-Term (Term-F.Eq a b)
put_step v by (Term-F.Less a b) = roll-Term (Term-F.Less a b)
put_step v by (Term-F.LessEq a b) = roll-Term (Term-F.LessEq a b)
put_step v by (Term-F.Not a) = roll-Term (Term-F.Not a)
put_step v by (Term-F.And a b) = roll-Term (Term-F.And a b)
put_step v by (Term-F.Or a b) = roll-Term (Term-F.Or a b)
put_step v by (Term-F.Implies a b) = roll-Term (Term-F.Implies a b)
put_step v by (Term-F.Initial k a) = roll-Term (Term-F.Initial k a)

abbrev pub put : ℕ → Term → Term → Term
put v by t = fold-Term Term (put_step v by) t

-- Why a substitution is refused whose result has n nodes: it would have more than 10,000, or memory has run out.
abbrev pub IsSizeRefusal : TermError → ℕ → Type 0
IsSizeRefusal TooLarge n = 10000 < n
IsSizeRefusal (SortClash node) n = ⊥
IsSizeRefusal NoMemory n = Unit {0}

-- whether all children pass
abbrev pub every_child : Term-F Bool → Bool
every_child (Term-F.Add a b) = a && b
every_child (Term-F.Sub a b) = a && b
every_child (Term-F.Mul a b) = a && b
every_child (Term-F.Div a b) = a && b
every_child (Term-F.Mod a b) = a && b
every_child (Term-F.Len a) = a
every_child (Term-F.Single a) = a
every_child (Term-F.Cat a b) = a && b
every_child (Term-F.Reverse a) = a
every_child (Term-F.Part i j a) = i && j && a
every_child (Term-F.Tuple parts) = list_all (λ p. p) parts
every_child (Term-F.Proj k a) = a
every_child (Term-F.Eq a b) = a && b
every_child (Term-F.Less a b) = a && b
every_child (Term-F.LessEq a b) = a && b
every_child (Term-F.Not a) = a
every_child (Term-F.And a b) = a && b
every_child (Term-F.Or a b) = a && b
every_child (Term-F.Implies a b) = a && b
every_child (Term-F.Initial k a) = a
every_child x = true
