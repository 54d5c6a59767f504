use Rattle.vc_prover.proofs.Fuel.{one_search}
use Rattle.vc_prover.proofs.laws.one_search.Goals as goal

pub returns : goal.returns
returns c = one_search
