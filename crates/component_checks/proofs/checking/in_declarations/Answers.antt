use Rattle.std.proofs.Common.{rules}
use Rattle.component_checks.proofs.Declared.{past}
use Rattle.component_checks.proofs.checking.in_declarations.Goals as goal

pub loop-number-preserved : goal.loop-number-preserved
loop-number-preserved c = (past c.args.table.now c.args.c.now c.loop-number.number c.loop-number.invariant.0 (search rules) (search rules), search rules)
