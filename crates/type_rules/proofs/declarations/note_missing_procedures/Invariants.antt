use Rattle.std.proofs.Common.{◌≡◌, drop}
use Rattle.std.specs.List.{flat_map}
use Rattle.type_rules.specs.Breaches.{least_of}
use Rattle.type_rules.specs.Declarations.{missing_procedure}
use Rattle.type_rules.proofs.declarations.note_missing_procedures.Given as goal

abbrev pub invariant-loop-heading : goal.invariant-loop-heading
invariant-loop-heading l =
    least_of l.least (flat_map (missing_procedure l.own) (drop l.heading-index l.asked)) ≡ least_of l.initial.least (flat_map (missing_procedure l.own) l.asked)
