use Rattle.std.proofs.Common.{length}
use Rattle.cell_rows.proofs.order.+in_text_order.Given as goal

abbrev pub decreases-in_text_order : goal.decreases-in_text_order
decreases-in_text_order l = length l.marks.now
