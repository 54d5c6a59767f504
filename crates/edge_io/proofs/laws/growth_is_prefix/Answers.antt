use Rattle.edge_io.proofs.Growth.{grew-prefix}
use Rattle.edge_io.proofs.laws.growth_is_prefix.Goals as goal

pub returns : goal.returns
returns c = grew-prefix
