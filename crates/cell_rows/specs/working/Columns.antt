-- The columns of named rows, and the rows in them.
use Rattle.std.specs.Prelude.{◌≡◌, Bool, true, false, ◌||◌, List, map, Option, Some, None}
use Rattle.std.specs.List.{list_any}
use Rattle.math_terms.specs.declared.term.Term.{Term}
use Rattle.math_terms.specs.Heads.{same_term}
use Rattle.num_theory.specs.Linear.{Product}
use Rattle.num_theory.specs.Naming.{occurs}
use Rattle.num_theory.specs.Table.{Sum}
use Rattle.cell_rows.specs.RowsStand.{Row}

-- an atom has a product among these
abbrev pub has_product : List Product → Term → Bool
has_product ps t = list_any (λ p. same_term t p.1) ps

-- the flags of the atoms, with those of one more row that there may be
abbrev pub RowUsed : Option Row → List Term → (Term → Bool) → Bool → List Bool → Type 0
RowUsed None atoms before found used = found ≡ false
RowUsed (Some r) atoms before found used = (found ≡ true) × (used ≡ map (λ t. has_product r.0 t || before t) atoms)

-- the flags of the atoms that occur in the named rows, where all of these are there
abbrev pub UsedIs : Option (List Sum) → List Term → Bool → List Bool → Type 0
UsedIs None atoms found used = found ≡ false
UsedIs (Some named) atoms found used = (found ≡ true) × (used ≡ map (occurs named) atoms)
