use Rattle.std.proofs.Common.{◌≡◌, drop, is_none}
use Rattle.std.specs.List.{flat_map}
use Rattle.type_rules.specs.Breaches.{least_of}
use Rattle.type_rules.specs.Headings.{procedure}
use Rattle.type_rules.specs.working.Seen.{seen_scope}
use Rattle.type_rules.proofs.declarations.note_locals.Given as goal

abbrev pub invariant-loop-local : goal.invariant-loop-local
invariant-loop-local l =
    let table = l.scope.table.now in
    let s = seen_scope l.scope in
    least_of l.least (flat_map (λ o. procedure table s (is_none l.own.enhancement) o.procedure) (drop l.local-index l.locals)) ≡ least_of l.initial.least (flat_map (λ o. procedure table s (is_none l.own.enhancement) o.procedure) l.locals)
