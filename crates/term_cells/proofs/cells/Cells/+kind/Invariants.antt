use Rattle.std.proofs.Common.{◌+◌, ◌*◌}
use Rattle.term_cells.proofs.cells.Cells.+kind.Given as goal

abbrev pub decreases-kind_of : goal.decreases-kind_of
decreases-kind_of l = 2 * l.p + 1

abbrev pub decreases-kind_of_part : goal.decreases-kind_of_part
decreases-kind_of_part l = 2 * l.limit
