use Rattle.std.proofs.Common.{◌≡◌, drop, fold}
use Rattle.facility_bind.specs.Scopes.{scope, with_facility}
use Rattle.facility_bind.proofs.scope.Scope.behind.Given as goal

abbrev pub invariant-loop-declaration : goal.invariant-loop-declaration
invariant-loop-declaration l = scope l.table l.component l.declarations ≡ fold (with_facility l.table) l.scope (drop l.declaration-index l.declarations)
