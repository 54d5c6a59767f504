use Rattle.std.proofs.Common.{◌≡◌, drop}
use Rattle.std.specs.List.{find}
use Rattle.type_inst.specs.Assertions.{is_named}
use Rattle.type_inst.proofs.assertion.find_type.Given as goal

abbrev pub invariant-loop-pair : goal.invariant-loop-pair
invariant-loop-pair l = find (is_named l.name) l.types ≡ find (is_named l.name) (drop l.pair-index l.types)
