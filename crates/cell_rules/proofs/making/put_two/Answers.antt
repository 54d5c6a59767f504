use Rattle.std.proofs.Common.{arith}
use Rattle.cell_rules.proofs.Kept.{grows_on, pushed_grows}
use Rattle.cell_rules.proofs.making.put_two.Goals as goal

pub returns-clause-grown : goal.returns-clause-grown
returns-clause-grown c =
    grows_on _ _ _ 3 2 4 (grows_on _ _ _ 2 2 3 c.in_ok-left.ensures.grown c.in_ok-right.ensures.grown (omega arith)) (pushed_grows _ _ _ _ c.two.ensures.pushed) (omega arith)
