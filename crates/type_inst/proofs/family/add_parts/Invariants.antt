use Rattle.std.proofs.Common.{◌≡◌, ◌++◌, drop}
use Rattle.type_inst.specs.Descriptors.{parts_from}
use Rattle.type_inst.proofs.family.add_parts.Given as goal

abbrev pub invariant-loop-part : goal.invariant-loop-part
invariant-loop-part l = l.initial.out ++ parts_from l.name 0 l.parts ≡ l.out ++ parts_from l.name l.next (drop l.part-index l.parts)
