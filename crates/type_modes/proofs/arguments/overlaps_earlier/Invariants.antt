use Rattle.std.proofs.Common.{◌≡◌, false, map}
use Rattle.type_modes.specs.Expressions.{look}
use Rattle.type_modes.specs.Places.{Body}
use Rattle.type_modes.specs.working.Found.{overlaps_earlier}
use Rattle.type_modes.specs.working.Seen.{seen_callee, seen_spot}
use Rattle.type_modes.proofs.arguments.overlaps_earlier.Given as goal

abbrev pub invariant-loop-k : goal.invariant-loop-k
invariant-loop-k l = (b : Body) → overlaps_earlier (seen_callee l.callee).signature.params (map (look b) l.args) l.k (seen_spot l.spot) ≡ false
