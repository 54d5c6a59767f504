use Rattle.std.proofs.Common.{◌≡◌, ◌++◌, map, take}
use Rattle.math_types.specs.Components as spec
use Rattle.math_types.proofs.procedure.add_parameters.Given as goal

abbrev pub invariant-loop-p : goal.invariant-loop-p
invariant-loop-p l = l.out ≡ l.initial.out ++ map (spec.in_loop l.scope l.own) (take l.p-index l.params)
