use Rattle.vc_sequents.proofs.Keeping.{splits_keep_validity}
use Rattle.vc_sequents.proofs.laws.splits_keep_validity.Goals as goal

pub returns : goal.returns
returns c = splits_keep_validity c.values_have_kinds.ensures
