use Rattle.std.proofs.Common.{◌≡◌, ◌++◌, map, take}
use Rattle.std.specs.List.{flat_map}
use Rattle.math_types.specs.Components as spec
use Rattle.math_types.specs.working.Seen.{seen_group}
use Rattle.math_types.proofs.component.add_locals.Given as goal

abbrev pub invariant-loop-local : goal.invariant-loop-local
invariant-loop-local l = map seen_group l.groups ≡ map seen_group l.initial.groups ++ flat_map (spec.local l.scope l.own) (take l.local-index l.locals)
