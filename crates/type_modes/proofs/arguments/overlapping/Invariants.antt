use Rattle.std.proofs.Common.{◌≡◌, map}
use Rattle.type_rules.specs.Breaches.{least_of}
use Rattle.type_modes.specs.Expressions.{look}
use Rattle.type_modes.specs.Places.{Body}
use Rattle.type_modes.specs.working.Seen.{seen_callee}
use Rattle.type_modes.proofs.Moved.{overlapping_from}
use Rattle.type_modes.proofs.arguments.overlapping.Given as goal

abbrev pub invariant-loop-k : goal.invariant-loop-k
invariant-loop-k l = (b : Body) →
    let params = (seen_callee l.called).signature.params in
    let looks = map (look b) l.args in
    least_of l.least (overlapping_from params looks l.k) ≡ least_of l.initial.least (overlapping_from params looks 0)
