use Rattle.std.proofs.Common.{◌≡◌, map, take}
use Rattle.main_form.specs.Values.{stmt_of}
use Rattle.main_form.proofs.bodies.+statement.Given as goal

abbrev pub invariant-stmts_of-loop-x : goal.invariant-stmts_of-loop-x
invariant-stmts_of-loop-x l = l.out ≡ map (stmt_of l.main) (take l.x-index l.stmts)
