use Rattle.std.proofs.Common.{length}
use Rattle.math_types.proofs.types.+names_among.Given as goal

abbrev pub decreases-names_among : goal.decreases-names_among
decreases-names_among l = length l.families.now
