use Rattle.std.proofs.Common.{◌≡◌}
use Rattle.num_theory.specs.Linear.{add_products}
use Rattle.num_theory.proofs.forms.add_products.Given as goal

abbrev pub invariant-loop-coefficient : goal.invariant-loop-coefficient
invariant-loop-coefficient l = l.products.items ≡ add_products l.initial.products.items l.yielded
