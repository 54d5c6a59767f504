use Rattle.std.proofs.Common.{◌≡◌, [], drop}
use Rattle.type_inst.specs.Descriptors.{finished}
use Rattle.type_inst.proofs.model.model.Given as goal

abbrev pub invariant-loop-part : goal.invariant-loop-part
invariant-loop-part l = finished l.types l.descs l.parts [] ≡ finished l.types l.descs (drop l.part-index l.parts) l.stack.items
