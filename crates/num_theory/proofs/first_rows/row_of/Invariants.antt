use Rattle.std.proofs.Common.{◌≡◌, map, take}
use Rattle.num_theory.specs.Table.{coefficient}
use Rattle.num_theory.proofs.first_rows.row_of.Given as goal

abbrev pub invariant-loop-atom : goal.invariant-loop-atom
invariant-loop-atom l = l.row.items ≡ map (λ t. coefficient t l.sum.products) (take l.atom-index l.atoms)
