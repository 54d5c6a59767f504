use Rattle.std.proofs.Common.{◌≡◌, ◌++◌, drop}
use Rattle.type_inst.specs.Descriptors.{types_from}
use Rattle.type_inst.proofs.formals.types_of.Given as goal

abbrev pub invariant-loop-formal : goal.invariant-loop-formal
invariant-loop-formal l = types_from 0 l.formals ≡ l.out ++ types_from l.next (drop l.formal-index l.formals)
