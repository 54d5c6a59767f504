use Rattle.math_terms.proofs.FilledKinds.{filling_keeps_kinds}
use Rattle.math_terms.proofs.laws.filling_keeps_kinds.Goals as goal

pub returns : goal.returns
returns c = filling_keeps_kinds
