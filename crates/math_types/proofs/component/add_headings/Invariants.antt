use Rattle.std.proofs.Common.{◌≡◌, ◌++◌, map, take}
use Rattle.std.specs.List.{flat_map}
use Rattle.math_types.specs.Components as spec
use Rattle.math_types.specs.working.Seen.{seen_group}
use Rattle.math_types.proofs.component.add_headings.Given as goal

abbrev pub invariant-loop-heading : goal.invariant-loop-heading
invariant-loop-heading l = map seen_group l.groups ≡ map seen_group l.initial.groups ++ flat_map (spec.heading l.scope) (take l.heading-index l.headings)
