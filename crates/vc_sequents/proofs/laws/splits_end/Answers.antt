use Rattle.vc_sequents.proofs.Ending.{splits_end}
use Rattle.vc_sequents.proofs.laws.splits_end.Goals as goal

pub returns : goal.returns
returns c = splits_end
