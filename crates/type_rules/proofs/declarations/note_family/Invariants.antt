use Rattle.std.proofs.Common.{◌≡◌, drop}
use Rattle.std.specs.List.{flat_map}
use Rattle.type_rules.specs.Breaches.{least_of}
use Rattle.type_rules.specs.Declarations.{part_breaches}
use Rattle.type_rules.specs.working.Seen.{seen_scope}
use Rattle.type_rules.proofs.declarations.note_family.Given as goal

abbrev pub invariant-loop-part : goal.invariant-loop-part
invariant-loop-part l =
    let rule = part_breaches (seen_scope l.scope) l.family.at in
    least_of l.least (flat_map rule (drop l.part-index l.part-items)) ≡ least_of l.initial.least (flat_map rule l.part-items)
