use Rattle.std.proofs.Common.{◌≡◌, take}
use Rattle.res_ast.proofs.statement.+copy.Given as goal

abbrev pub invariant-copy_stmts-loop-s : goal.invariant-copy_stmts-loop-s
invariant-copy_stmts-loop-s l = l.out ≡ take l.s-index l.stmts
