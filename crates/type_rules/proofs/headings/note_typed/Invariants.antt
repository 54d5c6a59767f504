use Rattle.std.proofs.Common.{◌≡◌, drop}
use Rattle.std.specs.List.{flat_map}
use Rattle.type_rules.specs.Breaches.{least_of}
use Rattle.type_rules.specs.Headings.{typed}
use Rattle.type_rules.specs.working.Seen.{seen_scope}
use Rattle.type_rules.proofs.headings.note_typed.Given as goal

abbrev pub invariant-loop-ptype : goal.invariant-loop-ptype
invariant-loop-ptype l =
    let rule = typed l.scope.table.now (seen_scope l.scope) l.hides in
    least_of l.least (flat_map rule (drop l.ptype-index l.variables)) ≡ least_of l.initial.least (flat_map rule l.variables)
