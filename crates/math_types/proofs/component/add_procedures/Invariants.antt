use Rattle.std.proofs.Common.{◌≡◌, ◌++◌, map, take}
use Rattle.std.specs.List.{flat_map}
use Rattle.math_types.specs.Components as spec
use Rattle.math_types.specs.working.Seen.{seen_group}
use Rattle.math_types.proofs.component.add_procedures.Given as goal

abbrev pub invariant-loop-procedure : goal.invariant-loop-procedure
invariant-loop-procedure l = map seen_group l.groups ≡ map seen_group l.initial.groups ++ flat_map (spec.procedure l.scope l.own) (take l.procedure-index l.procedures)
