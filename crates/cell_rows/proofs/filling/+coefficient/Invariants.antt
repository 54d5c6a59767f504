use Rattle.std.proofs.Common.{length}
use Rattle.cell_rows.proofs.filling.+coefficient.Given as goal

abbrev pub decreases-coefficient : goal.decreases-coefficient
decreases-coefficient l = length l.marks.now
