use Rattle.std.proofs.Common.{◌≡◌, ◌++◌, map, take}
use Rattle.std.specs.List.{flat_map}
use Rattle.module_table.specs.Slots as spec
use Rattle.module_table.specs.working.Seen.{seen}
use Rattle.module_table.proofs.slots.add_declarations.Given as goal

abbrev pub invariant-loop-declaration : goal.invariant-loop-declaration
invariant-loop-declaration l = map seen l.slots ≡ map seen l.initial.slots ++ flat_map spec.declared (take l.declaration-index l.declarations)
