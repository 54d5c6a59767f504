use Rattle.std.proofs.Common.{◌≡◌, drop}
use Rattle.std.specs.List.{flat_map}
use Rattle.type_rules.specs.Breaches.{least_of}
use Rattle.type_modes.specs.Statements.{listed}
use Rattle.type_modes.specs.working.Seen.{seen_body}
use Rattle.type_modes.proofs.body.Body.listed.Given as goal

abbrev pub invariant-loop-place : goal.invariant-loop-place
invariant-loop-place l =
    let rule = listed (seen_body l.self) in
    least_of l.least (flat_map rule (drop l.place-index l.places)) ≡ least_of l.initial.least (flat_map rule l.places)
