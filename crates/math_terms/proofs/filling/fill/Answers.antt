use Rattle.std.proofs.Common.{arith}
use Rattle.math_terms.proofs.Fillings.{filled_count_is}
use Rattle.math_terms.proofs.filling.fill.Goals as goal

pub returns-then-count_filled-gt-MOST_NODES-clause-refused :
    goal.returns-then-count_filled-gt-MOST_NODES-clause-refused
returns-then-count_filled-gt-MOST_NODES-clause-refused c =
    omega (arith, c.count_filled.ensures, filled_count_is 10000 c.args.vars.now c.args.descs.now c.args.t.now, c.if-count_filled-gt-MOST_NODES.true)

pub returns-in-Ok-clause-small : goal.returns-in-Ok-clause-small
returns-in-Ok-clause-small c =
    omega (arith, c.count_filled.ensures, filled_count_is 10000 c.args.vars.now c.args.descs.now c.args.t.now, c.if-count_filled-gt-MOST_NODES.false)
