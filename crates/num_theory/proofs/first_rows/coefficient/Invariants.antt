use Rattle.std.proofs.Common.{◌≡◌, drop}
use Rattle.num_theory.specs.Table as spec
use Rattle.num_theory.proofs.first_rows.coefficient.Given as goal

abbrev pub invariant-loop-p : goal.invariant-loop-p
invariant-loop-p l = spec.coefficient l.atom l.products ≡ spec.coefficient l.atom (drop l.p-index l.products)
