use Rattle.main_prover.proofs.FirstOnes.{none_first_law}
use Rattle.main_prover.proofs.laws.none_first.Goals as goal

pub returns : goal.returns
returns c = none_first_law
