use Rattle.main_prover.proofs.Forming.{link_is_formed}
use Rattle.main_prover.proofs.laws.modules_are_formed.Goals as goal

pub returns : goal.returns
returns c = link_is_formed
