use Rattle.vc_sequents.proofs.Leaving.{one_leaf_list}
use Rattle.vc_sequents.proofs.laws.one_leaf_list.Goals as goal

pub returns : goal.returns
returns c = one_leaf_list
