use Rattle.std.proofs.Common.{◌≡◌, drop}
use Rattle.std.specs.List.{flat_map, zip}
use Rattle.type_rules.specs.Breaches.{least_of}
use Rattle.type_rules.specs.Declarations.{argument_for}
use Rattle.type_rules.specs.working.Seen.{seen_scope}
use Rattle.type_rules.proofs.declarations.note_arguments.Given as goal

abbrev pub invariant-loop-k : goal.invariant-loop-k
invariant-loop-k l =
    let rule = argument_for l.scope.table.now (seen_scope l.scope) l.hides in
    least_of l.least (flat_map rule (zip (drop l.k l.formals) (drop l.k l.arguments))) ≡ least_of l.initial.least (flat_map rule (zip l.formals l.arguments))
