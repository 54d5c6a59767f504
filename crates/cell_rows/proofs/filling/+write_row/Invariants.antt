use Rattle.std.proofs.Common.{length}
use Rattle.cell_rows.proofs.filling.+write_row.Given as goal

abbrev pub decreases-write_row : goal.decreases-write_row
decreases-write_row l = length l.columns.now
