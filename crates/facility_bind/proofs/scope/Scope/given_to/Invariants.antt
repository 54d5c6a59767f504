use Rattle.std.proofs.Common.{◌≡◌, ◌++◌, drop}
use Rattle.facility_bind.specs.Scopes.{given_to}
use Rattle.facility_bind.proofs.scope.Scope.given_to.Given as goal

abbrev pub invariant-loop-formal : goal.invariant-loop-formal
invariant-loop-formal l = given_to l.self l.formals l.args ≡ l.out ++ given_to l.self (drop l.formal-index l.formals) l.rest
