use Rattle.math_terms.proofs.SortsToKinds.{sorts_have_kinds}
use Rattle.math_terms.proofs.laws.sorts_have_kinds.Goals as goal

pub returns : goal.returns
returns c = sorts_have_kinds
