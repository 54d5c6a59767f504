use Rattle.std.proofs.Common.{length}
use Rattle.cell_rows.proofs.columns.+clear.Given as goal

abbrev pub decreases-clear : goal.decreases-clear
decreases-clear l = length l.used.now
