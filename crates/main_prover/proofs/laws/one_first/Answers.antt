use Rattle.main_prover.proofs.FirstOnes.{one_first_law}
use Rattle.main_prover.proofs.laws.one_first.Goals as goal

pub returns : goal.returns
returns c = one_first_law
