use Rattle.std.proofs.Common.{◌≡◌, map, take}
use Rattle.type_inst.specs.Descriptors.{desc}
use Rattle.facility_bind.specs.Clauses.{desc_behind, integers}
use Rattle.facility_bind.proofs.clauses.descs_behind.Given as goal

abbrev pub invariant-loop-t : goal.invariant-loop-t
invariant-loop-t l = l.out ≡ map (λ t. desc_behind l.before (integers l.scope) (desc l.scope.families t)) (take l.t-index l.types)
