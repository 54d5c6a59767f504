use Rattle.std.proofs.Common.{◌≡◌, map, take}
use Rattle.math_types.specs.Components as spec
use Rattle.math_types.proofs.names.names.Given as goal

abbrev pub invariant-loop-p : goal.invariant-loop-p
invariant-loop-p l = l.out ≡ map (spec.parameter l.scope l.to) (take l.p-index l.heading.params)
