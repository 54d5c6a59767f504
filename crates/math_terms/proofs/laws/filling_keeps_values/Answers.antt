use Rattle.math_terms.proofs.FilledValues.{filling_keeps_values}
use Rattle.math_terms.proofs.laws.filling_keeps_values.Goals as goal

pub returns : goal.returns
returns c = filling_keeps_values
