use Rattle.std.proofs.Common.{◌≡◌, drop}
use Rattle.std.specs.List.{flat_map}
use Rattle.type_rules.specs.Breaches.{least_of}
use Rattle.type_rules.specs.Declarations.{module_operation}
use Rattle.type_rules.specs.working.Seen.{seen_scope}
use Rattle.type_rules.proofs.declarations.note_module_operations.Given as goal

abbrev pub invariant-loop-operation : goal.invariant-loop-operation
invariant-loop-operation l =
    let rule = module_operation l.scope.table.now (seen_scope l.scope) in
    least_of l.least (flat_map rule (drop l.operation-index l.operations)) ≡ least_of l.initial.least (flat_map rule l.operations)
