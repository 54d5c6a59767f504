use Rattle.std.proofs.Common.{◌≡◌, ◌++◌, drop}
use Rattle.type_inst.specs.Descriptors.{listed}
use Rattle.facility_bind.specs.Clauses.{parameter, parameters}
use Rattle.facility_bind.proofs.clauses.Binding.add_parameters.Given as goal

abbrev pub invariant-loop-param : goal.invariant-loop-param
invariant-loop-param l =
    l.initial.names ++ parameters l.self.family.now l.shift l.params ≡ l.names ++ listed (parameter l.self.family.now l.shift) (λ p. 1) l.next (drop l.param-index l.params)
