use Rattle.std.proofs.Common.{◌≡◌, ◌++◌, drop}
use Rattle.type_inst.specs.Descriptors as spec
use Rattle.type_inst.proofs.formals.given_numbers.Given as goal

abbrev pub invariant-loop-formal : goal.invariant-loop-formal
invariant-loop-formal l = spec.given_numbers l.formals ≡ l.out ++ spec.given_numbers (drop l.formal-index l.formals)
