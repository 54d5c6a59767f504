use Rattle.std.proofs.Common.{◌≡◌, ◌++◌, drop}
use Rattle.type_inst.specs.Descriptors as spec
use Rattle.type_inst.proofs.formals.given_types.Given as goal

abbrev pub invariant-loop-formal : goal.invariant-loop-formal
invariant-loop-formal l = spec.given_types l.formals ≡ l.out ++ spec.given_types (drop l.formal-index l.formals)
