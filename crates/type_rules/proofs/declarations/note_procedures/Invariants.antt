use Rattle.std.proofs.Common.{◌≡◌, drop}
use Rattle.std.specs.List.{flat_map}
use Rattle.type_rules.specs.Breaches.{least_of}
use Rattle.type_rules.specs.Concepts.{asked}
use Rattle.type_rules.specs.Declarations.{asked_procedure}
use Rattle.type_rules.specs.working.Seen.{seen_scope}
use Rattle.type_rules.proofs.declarations.note_procedures.Given as goal

abbrev pub invariant-loop-procedure : goal.invariant-loop-procedure
invariant-loop-procedure l =
    let rule = asked_procedure l.scope.table.now (seen_scope l.scope) l.own in
    (l.asked ≡ asked l.scope.table.now l.own)
    × (least_of l.least (flat_map rule (drop l.procedure-index l.procedures)) ≡ least_of l.initial.least (flat_map rule l.procedures))
