use Rattle.std.proofs.Common.{length}
use Rattle.cell_rows.proofs.order.+insert.Given as goal

abbrev pub decreases-insert : goal.decreases-insert
decreases-insert l = length l.marks.now
