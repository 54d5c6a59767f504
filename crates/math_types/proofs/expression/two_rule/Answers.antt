use Rattle.std.proofs.Common.{[]}
use Rattle.math_types.proofs.expression.two_rule.Goals as goal

pub returns : goal.returns
returns c = c.sort_of_two.ensures []
