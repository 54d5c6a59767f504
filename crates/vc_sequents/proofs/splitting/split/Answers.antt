use Rattle.vc_sequents.proofs.Leaving.{valid_parts}
use Rattle.vc_sequents.proofs.splitting.split.Goals as goal

pub returns-clause-valid : goal.returns-clause-valid
returns-clause-valid c = valid_parts c.splits_keep_validity.ensures c.args.s.now c.first_split.result c.first_split.ensures
