use Rattle.std.proofs.Common.{◌∙◌, sym, drop, arith}
use Rattle.facility_bind.proofs.Misfits.{no_misfit}
use Rattle.facility_bind.proofs.arguments.first_misfit.Goals as goal

pub returns-in-empty : goal.returns-in-empty
returns-in-empty c =
    no_misfit c.args.scope.now (drop c.loop-kind.kind-index c.args.kinds.now) c.loop-kind.rest.now (omega (arith, c.in-empty.len_below)) ∙ sym c.loop-kind.invariant
