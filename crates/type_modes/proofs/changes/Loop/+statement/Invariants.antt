use Rattle.std.proofs.Common.{◌≡◌, drop, map}
use Rattle.type_modes.specs.Statements.{changes_in, statement}
use Rattle.type_modes.specs.working.Found.{noted}
use Rattle.type_modes.specs.working.Seen.{seen_body, seen_loop}
use Rattle.type_modes.proofs.changes.Loop.+statement.Given as goal

abbrev pub invariant-note_stmts-loop-stmt : goal.invariant-note_stmts-loop-stmt
invariant-note_stmts-loop-stmt l =
    let own = seen_loop l.self in
    let see = statement (seen_body l.self.body) in
    noted own l.least (changes_in (map see (drop l.stmt-index l.stmts))) ≡ noted own l.initial.least (changes_in (map see l.stmts))
