use Rattle.edge_io.proofs.Growth.{grew-trans}
use Rattle.edge_io.proofs.laws.growth_composes.Goals as goal

pub returns : goal.returns
returns c = grew-trans
