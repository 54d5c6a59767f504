use Rattle.std.proofs.Common.{◌≡◌, drop, map}
use Rattle.main_form.specs.Places.{one_by_one, stmt_room}
use Rattle.main_form.proofs.statements.+count.Given as goal

abbrev pub invariant-count_stmts-loop-x : goal.invariant-count_stmts-loop-x
invariant-count_stmts-loop-x l = one_by_one (map stmt_room (drop l.x-index l.stmts)) l.room ≡ one_by_one (map stmt_room l.stmts) l.initial.room
