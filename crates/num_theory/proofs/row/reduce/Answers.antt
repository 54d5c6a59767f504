use Rattle.num_theory.proofs.Divisors.{divisor-is}
use Rattle.num_theory.proofs.row.reduce.Goals as goal

pub returns-then-by-gt0-clause-greatest : goal.returns-then-by-gt0-clause-greatest
returns-then-by-gt0-clause-greatest c = divisor-is c.args.row.now

pub returns-else-by-gt0-clause-greatest : goal.returns-else-by-gt0-clause-greatest
returns-else-by-gt0-clause-greatest c = divisor-is c.args.row.now
