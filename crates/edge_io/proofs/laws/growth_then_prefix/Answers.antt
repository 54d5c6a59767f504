use Rattle.edge_io.proofs.Growth.{grew-trans-prefix}
use Rattle.edge_io.proofs.laws.growth_then_prefix.Goals as goal

pub returns : goal.returns
returns c = grew-trans-prefix
