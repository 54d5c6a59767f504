use Rattle.std.proofs.Common.{◌≡◌, drop}
use Rattle.std.specs.List.{find}
use Rattle.type_inst.specs.Assertions.{is_part}
use Rattle.type_inst.proofs.assertion.find_part.Given as goal

abbrev pub invariant-loop-m : goal.invariant-loop-m
invariant-loop-m l = find (is_part l.old l.name l.part) l.meanings ≡ find (is_part l.old l.name l.part) (drop l.m-index l.meanings)
