use Rattle.std.proofs.Common.{◌≡◌}
use Rattle.facility_bind.specs.Clauses.{variables}
use Rattle.facility_bind.proofs.clauses.variables.Given as goal

abbrev pub invariant-loop-k : goal.invariant-loop-k
invariant-loop-k l = l.out ≡ variables l.first l.k
