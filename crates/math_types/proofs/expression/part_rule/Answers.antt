use Rattle.std.proofs.Common.{[]}
use Rattle.math_types.proofs.expression.part_rule.Goals as goal

pub returns : goal.returns
returns c = c.sort_of_part.ensures []
