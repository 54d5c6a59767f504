use Rattle.std.proofs.Common.{◌≡◌, map, take}
use Rattle.math_types.specs.Components as spec
use Rattle.math_types.proofs.family.fields_of.Given as goal

abbrev pub invariant-loop-field : goal.invariant-loop-field
invariant-loop-field l = l.out ≡ map (spec.field l.scope) (take l.field-index l.fields)
