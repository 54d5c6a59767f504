use Rattle.std.proofs.Common.{◌≡◌, ◌-◌, length}
use Rattle.vc_sequents.specs.Splitting.{split_from, split_of}
use Rattle.vc_sequents.proofs.splitting.first_split.Given as goal

abbrev pub invariant-loop-k : goal.invariant-loop-k
invariant-loop-k l = split_of l.s ≡ split_from l.k (length l.s.hyps - l.k) l.s
