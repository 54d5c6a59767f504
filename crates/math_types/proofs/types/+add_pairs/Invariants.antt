use Rattle.std.proofs.Common.{length}
use Rattle.math_types.proofs.types.+add_pairs.Given as goal

abbrev pub decreases-add_pairs : goal.decreases-add_pairs
decreases-add_pairs l = length l.names.now
