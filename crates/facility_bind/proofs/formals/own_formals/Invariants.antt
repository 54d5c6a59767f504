use Rattle.std.proofs.Common.{◌≡◌, ◌++◌, drop}
use Rattle.facility_bind.specs.Formals.{own_formals, formals_from}
use Rattle.facility_bind.proofs.formals.own_formals.Given as goal

abbrev pub invariant-loop-formal : goal.invariant-loop-formal
invariant-loop-formal l = own_formals l.formals ≡ l.out ++ formals_from l.next_type l.next_integer (drop l.formal-index l.formals)
