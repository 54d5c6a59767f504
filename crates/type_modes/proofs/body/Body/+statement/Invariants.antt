use Rattle.std.proofs.Common.{◌≡◌, drop, map}
use Rattle.type_rules.specs.Breaches.{least_of}
use Rattle.type_modes.specs.Statements.{breaches_in, statement}
use Rattle.type_modes.specs.working.Seen.{seen_body}
use Rattle.type_modes.proofs.body.Body.+statement.Given as goal

abbrev pub invariant-statements-loop-stmt : goal.invariant-statements-loop-stmt
invariant-statements-loop-stmt l =
    let see = statement (seen_body l.self) in
    least_of l.least (breaches_in (map see (drop l.stmt-index l.stmts))) ≡ least_of l.initial.least (breaches_in (map see l.stmts))
