-- Lists of atoms in which none comes twice, and none has many nodes.
use Rattle.std.specs.Prelude.{ℕ, List}
use Rattle.std.specs.List.{IsDistinct}
use Rattle.math_terms.specs.declared.term.Term.{Term}
use Rattle.math_terms.specs.Heads.{same_term}
use Rattle.cell_rows.specs.working.Small.{Small}

-- The terms differ from one another, and none has more nodes than so many.
pub record Tame (most : ℕ) (ts : List Term) : Type 0 where
  pub distinct : IsDistinct same_term ts
  pub small : Small most ts
