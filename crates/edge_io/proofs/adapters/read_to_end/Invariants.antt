use Rattle.std.proofs.Common.{◌-◌, vec_len}
use Rattle.edge_io.proofs.adapters.read_to_end.Given as goal

-- how many bytes may come yet
abbrev pub decreases-loop-chunk : goal.decreases-loop-chunk
decreases-loop-chunk g l = 16777217 - vec_len l.into
