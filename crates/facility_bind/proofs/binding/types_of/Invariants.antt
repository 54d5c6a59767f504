use Rattle.std.proofs.Common.{◌≡◌, map, take}
use Rattle.facility_bind.specs.Scopes.{type_in}
use Rattle.facility_bind.proofs.binding.types_of.Given as goal

abbrev pub invariant-loop-param : goal.invariant-loop-param
invariant-loop-param l = l.out ≡ map (λ p. type_in l.scope p.ptype) (take l.param-index l.params)
