use Rattle.std.proofs.Common.{◌≡◌, take}
use Rattle.num_theory.specs.Table.{with_atoms}
use Rattle.num_theory.proofs.gathering.add_atoms.Given as goal

abbrev pub invariant-loop-p : goal.invariant-loop-p
invariant-loop-p l = l.atoms.items ≡ with_atoms l.initial.atoms.items (take l.p-index l.products)
