use Rattle.vc_prover.proofs.Legal.{found_legal}
use Rattle.vc_prover.proofs.Refuting.{linear_gives}
use Rattle.vc_prover.proofs.laws.found_is_legal.Goals as goal

pub returns : goal.returns
returns c = found_legal (linear_gives c.refutations_refute.ensures c.rows_fit.ensures)
