use Rattle.std.proofs.Common.{length}
use Rattle.cell_rows.proofs.columns.+keep_columns.Given as goal

abbrev pub decreases-keep_columns : goal.decreases-keep_columns
decreases-keep_columns l = length l.atoms.now
