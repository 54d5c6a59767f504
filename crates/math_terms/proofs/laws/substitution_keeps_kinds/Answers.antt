use Rattle.math_terms.proofs.WellValued.{substitution_keeps_kinds}
use Rattle.math_terms.proofs.laws.substitution_keeps_kinds.Goals as goal

pub returns : goal.returns
returns c = substitution_keeps_kinds
