use Rattle.std.proofs.Common.{◌≡◌, map, take}
use Rattle.module_table.specs.Slots as spec
use Rattle.module_table.specs.working.Seen.{seen}
use Rattle.module_table.proofs.uses.listed.Given as goal

abbrev pub invariant-loop-slot : goal.invariant-loop-slot
invariant-loop-slot l = l.names ≡ spec.listed (map seen (take l.slot-index l.slots))
