use Rattle.std.proofs.Common.{◌≡◌, drop}
use Rattle.facility_bind.specs.Arguments.{first_misfit}
use Rattle.facility_bind.proofs.arguments.first_misfit.Given as goal

abbrev pub invariant-loop-kind : goal.invariant-loop-kind
invariant-loop-kind l = first_misfit l.scope l.kinds l.args ≡ first_misfit l.scope (drop l.kind-index l.kinds) l.rest
