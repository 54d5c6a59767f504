use Rattle.std.proofs.Common.{length}
use Rattle.type_inst.proofs.descriptor.+among.Given as goal

abbrev pub decreases-among : goal.decreases-among
decreases-among l = length l.families.now
