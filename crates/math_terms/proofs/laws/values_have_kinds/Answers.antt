use Rattle.math_terms.proofs.Shaped.{values_have_kinds}
use Rattle.math_terms.proofs.laws.values_have_kinds.Goals as goal

pub returns : goal.returns
returns c = values_have_kinds
