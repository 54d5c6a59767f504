use Rattle.linear_prover.proofs.Refuting.{refutation_refutes}
use Rattle.linear_prover.proofs.laws.refutations_refute.Goals as goal

pub returns : goal.returns
returns c = refutation_refutes
