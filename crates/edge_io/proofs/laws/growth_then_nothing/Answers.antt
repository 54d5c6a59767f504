use Rattle.edge_io.proofs.Growth.{grew-nothing}
use Rattle.edge_io.proofs.laws.growth_then_nothing.Goals as goal

pub returns : goal.returns
returns c = grew-nothing
