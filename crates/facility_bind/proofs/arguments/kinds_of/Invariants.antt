use Rattle.std.proofs.Common.{◌≡◌, map, take}
use Rattle.facility_bind.proofs.arguments.kinds_of.Given as goal

abbrev pub invariant-loop-formal : goal.invariant-loop-formal
invariant-loop-formal l = l.out ≡ map (λ f. f.is_type) (take l.formal-index l.formals)
