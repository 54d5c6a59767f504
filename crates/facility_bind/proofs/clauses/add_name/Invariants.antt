use Rattle.std.proofs.Common.{◌≡◌, ◌++◌, ◌∷◌, [], drop}
use Rattle.type_inst.specs.Descriptors.{listed}
use Rattle.facility_bind.specs.Clauses.{part}
use Rattle.facility_bind.proofs.clauses.add_name.Given as goal

abbrev pub invariant-loop-part : goal.invariant-loop-part
invariant-loop-part l =
    l.initial.names ++ listed (λ k p. part l.old l.name l.v k p ∷ []) (λ p. 1) 0 l.parts
    ≡ l.names ++ listed (λ k p. part l.old l.name l.v k p ∷ []) (λ p. 1) l.next (drop l.part-index l.parts)
