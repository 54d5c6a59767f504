use Rattle.std.proofs.Common.{◌≡◌, drop, map}
use Rattle.main_form.specs.Places.{earliest_from, stmt_first}
use Rattle.main_form.proofs.statements.+statement.Given as goal

abbrev pub invariant-stmts_first-loop-x : goal.invariant-stmts_first-loop-x
invariant-stmts_first-loop-x l = earliest_from l.first (map (stmt_first l.main) (drop l.x-index l.stmts)) ≡ earliest_from l.initial.first (map (stmt_first l.main) l.stmts)
