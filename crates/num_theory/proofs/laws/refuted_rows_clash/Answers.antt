use Rattle.num_theory.proofs.Refuting.{refuted_rows_clash}
use Rattle.num_theory.proofs.laws.refuted_rows_clash.Goals as goal

pub returns : goal.returns
returns c = refuted_rows_clash
