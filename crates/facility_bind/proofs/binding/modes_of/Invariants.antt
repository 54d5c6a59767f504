use Rattle.std.proofs.Common.{◌≡◌, map, take}
use Rattle.facility_bind.proofs.binding.modes_of.Given as goal

abbrev pub invariant-loop-param : goal.invariant-loop-param
invariant-loop-param l = l.out ≡ map (λ p. p.mode) (take l.param-index l.params)
