use Rattle.std.proofs.Common.{length}
use Rattle.cell_rows.proofs.columns.+use_row.Given as goal

abbrev pub decreases-use_row : goal.decreases-use_row
decreases-use_row l = length l.atoms.now
