use Rattle.main_prover.proofs.Counted.{truth_found}
use Rattle.main_prover.proofs.deciding.is_true.Goals as goal

pub returns : goal.returns
returns c = truth_found c.args.f.now c.in_ok-found.found c.is_some_true.result c.in_ok-found.ensures c.is_some_true.ensures
