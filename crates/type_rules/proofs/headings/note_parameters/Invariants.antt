use Rattle.std.proofs.Common.{◌≡◌, drop}
use Rattle.std.specs.List.{flat_map}
use Rattle.type_rules.specs.Breaches.{least_of}
use Rattle.type_rules.specs.Headings.{parameter}
use Rattle.type_rules.specs.working.Seen.{seen_scope}
use Rattle.type_rules.proofs.headings.note_parameters.Given as goal

abbrev pub invariant-loop-param : goal.invariant-loop-param
invariant-loop-param l =
    let rule = parameter l.scope.table.now (seen_scope l.scope) l.is_function in
    least_of l.least (flat_map rule (drop l.param-index l.params)) ≡ least_of l.initial.least (flat_map rule l.params)
