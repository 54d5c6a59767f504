use Rattle.math_terms.proofs.Putting.{value_in_put}
use Rattle.math_terms.proofs.laws.substitution_keeps_values.Goals as goal

pub returns : goal.returns
returns c = value_in_put
