use Rattle.math_types.proofs.Accepted.{accepted_have_sorts}
use Rattle.math_types.proofs.laws.accepted_have_sorts.Goals as goal

pub returns : goal.returns
returns c = accepted_have_sorts
