use Rattle.std.proofs.Common.{◌≡◌, ◌++◌, map, take}
use Rattle.math_types.specs.Components as spec
use Rattle.math_types.proofs.procedure.add_variables.Given as goal

abbrev pub invariant-loop-v : goal.invariant-loop-v
invariant-loop-v l = l.out ≡ l.initial.out ++ map (spec.declared l.scope) (take l.v-index l.vars)
