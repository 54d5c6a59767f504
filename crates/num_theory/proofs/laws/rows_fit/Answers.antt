use Rattle.num_theory.proofs.Fitting.{rows_fit}
use Rattle.num_theory.proofs.laws.rows_fit.Goals as goal

pub returns : goal.returns
returns c = rows_fit
