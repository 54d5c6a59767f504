use Rattle.edge_io.proofs.Growth.{grew-refl}
use Rattle.edge_io.proofs.laws.unchanged.Goals as goal

pub returns : goal.returns
returns c = grew-refl
