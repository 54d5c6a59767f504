use Rattle.std.proofs.Common.{◌≡◌, ◌++◌, map, take}
use Rattle.module_table.specs.Slots as spec
use Rattle.module_table.specs.working.Seen.{seen}
use Rattle.module_table.proofs.slots.add_used.Given as goal

abbrev pub invariant-loop-name : goal.invariant-loop-name
invariant-loop-name l = map seen l.slots ≡ map seen l.initial.slots ++ map (spec.used l.at) (take l.name-index l.names)
