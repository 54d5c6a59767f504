use Rattle.std.proofs.Common.{◌≡◌, [], drop}
use Rattle.type_inst.specs.Descriptors.{known_from}
use Rattle.type_inst.proofs.family.known_descs.Given as goal

abbrev pub invariant-loop-f : goal.invariant-loop-f
invariant-loop-f l = known_from l.families [] l.families ≡ known_from l.families l.known (drop l.f-index l.families)
