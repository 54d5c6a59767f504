use Rattle.std.proofs.Common.{rules}
use Rattle.vc_sequents.proofs.Searching.{split_behind_hypothesis}
use Rattle.vc_sequents.proofs.splitting.first_split.Goals as goal

pub loop-k-preserved : goal.loop-k-preserved
loop-k-preserved c = split_behind_hypothesis c.args.s.now c.loop-k.k c.loop-k.invariant (search rules) (search rules)
