use Rattle.std.proofs.Common.{◌≡◌, None, map, take}
use Rattle.module_table.specs.Slots as spec
use Rattle.module_table.specs.working.Seen.{seen}
use Rattle.module_table.proofs.table.Table.check_all.Given as goal

abbrev pub invariant-loop-slot : goal.invariant-loop-slot
invariant-loop-slot l = spec.first_breach l.self (map seen (take l.slot-index l.slots)) ≡ None
