use Rattle.std.proofs.Common.{◌≡◌, ◌++◌, take}
use Rattle.math_types.specs.Components as spec
use Rattle.std.specs.List.{flat_map}
use Rattle.math_types.proofs.names.add_numbers.Given as goal

abbrev pub invariant-loop-formal : goal.invariant-loop-formal
invariant-loop-formal l = l.out ≡ l.initial.out ++ flat_map (λ p. spec.number_of p.0 p.1) (take l.formal-index l.scope.formals)
