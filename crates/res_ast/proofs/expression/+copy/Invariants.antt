use Rattle.std.proofs.Common.{◌≡◌, take}
use Rattle.res_ast.proofs.expression.+copy.Given as goal

abbrev pub invariant-copy_exprs-loop-e : goal.invariant-copy_exprs-loop-e
invariant-copy_exprs-loop-e l = l.out ≡ take l.e-index l.exprs
