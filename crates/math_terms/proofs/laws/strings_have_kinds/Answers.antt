use Rattle.math_terms.proofs.Shaped.{strings_have_kinds}
use Rattle.math_terms.proofs.laws.strings_have_kinds.Goals as goal

pub returns : goal.returns
returns c = strings_have_kinds
