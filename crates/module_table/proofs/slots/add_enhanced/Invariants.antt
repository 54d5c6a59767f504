use Rattle.std.proofs.Common.{◌≡◌, ◌++◌, map, take}
use Rattle.std.specs.List.{flat_map}
use Rattle.module_table.specs.Slots as spec
use Rattle.module_table.specs.working.Seen.{seen}
use Rattle.module_table.proofs.slots.add_enhanced.Given as goal

abbrev pub invariant-loop-enhancement : goal.invariant-loop-enhancement
invariant-loop-enhancement l = map seen l.slots ≡ map seen l.initial.slots ++ flat_map (spec.enhanced l.own) (take l.enhancement-index l.pairs)
