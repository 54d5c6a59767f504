use Rattle.std.proofs.Common.{◌≡◌, drop}
use Rattle.std.specs.List.{flat_map}
use Rattle.type_rules.specs.Breaches.{least_of}
use Rattle.type_rules.specs.Headings.{operation}
use Rattle.type_rules.specs.working.Seen.{seen_scope}
use Rattle.type_rules.proofs.headings.note_operations.Given as goal

abbrev pub invariant-loop-heading : goal.invariant-loop-heading
invariant-loop-heading l =
    let rule = operation l.scope.table.now (seen_scope l.scope) in
    least_of l.least (flat_map rule (drop l.heading-index l.headings)) ≡ least_of l.initial.least (flat_map rule l.headings)
