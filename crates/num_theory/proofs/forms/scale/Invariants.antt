use Rattle.std.proofs.Common.{◌≡◌, take, drop, ◌++◌, map}
use Rattle.num_theory.specs.Linear.{scaled}
use Rattle.num_theory.proofs.forms.scale.Given as goal

abbrev pub invariant-loop-p : goal.invariant-loop-p
invariant-loop-p l = l.products ≡ map (scaled l.by) (take l.p-index l.initial.products) ++ drop l.p-index l.initial.products
