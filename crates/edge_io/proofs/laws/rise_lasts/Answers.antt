use Rattle.edge_io.proofs.Growth.{rose-later}
use Rattle.edge_io.proofs.laws.rise_lasts.Goals as goal

pub returns : goal.returns
returns c = rose-later
