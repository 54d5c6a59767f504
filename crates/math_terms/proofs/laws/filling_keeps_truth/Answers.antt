use Rattle.math_terms.proofs.FilledValues.{filling_keeps_truth}
use Rattle.math_terms.proofs.laws.filling_keeps_truth.Goals as goal

pub returns : goal.returns
returns c = filling_keeps_truth
