use Rattle.std.proofs.Common.{◌≡◌, ◌++◌, drop}
use Rattle.type_inst.specs.Descriptors.{numbers_from}
use Rattle.type_inst.proofs.formals.add_numbers.Given as goal

abbrev pub invariant-loop-formal : goal.invariant-loop-formal
invariant-loop-formal l = l.initial.out ++ numbers_from l.first l.formals ≡ l.out ++ numbers_from l.next (drop l.formal-index l.formals)
