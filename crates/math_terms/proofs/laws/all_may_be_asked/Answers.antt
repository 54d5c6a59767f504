use Rattle.math_terms.proofs.FilledKinds.{all_may_be_asked}
use Rattle.math_terms.proofs.laws.all_may_be_asked.Goals as goal

pub returns : goal.returns
returns c = all_may_be_asked
