use Rattle.std.proofs.Common.{◌≡◌}
use Rattle.type_rules.specs.Breaches.{least_of}
use Rattle.type_modes.proofs.Procedures.{bodies_from}
use Rattle.type_modes.proofs.bodies.note_bodies.Given as goal

abbrev pub invariant-loop-k : goal.invariant-loop-k
invariant-loop-k l = least_of l.least (bodies_from l.table l.component l.k) ≡ least_of l.initial.least (bodies_from l.table l.component 0)
