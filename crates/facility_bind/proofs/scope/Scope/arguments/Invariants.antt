use Rattle.std.proofs.Common.{◌≡◌, map, take}
use Rattle.facility_bind.specs.Scopes.{argument}
use Rattle.facility_bind.proofs.scope.Scope.arguments.Given as goal

abbrev pub invariant-loop-arg : goal.invariant-loop-arg
invariant-loop-arg l = l.out ≡ map (argument l.self) (take l.arg-index l.args)
