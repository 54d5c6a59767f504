use Rattle.std.proofs.Common.{◌+◌, ◌*◌}
use Rattle.term_cells.proofs.cells.Cells.+count.Given as goal

abbrev pub decreases-count : goal.decreases-count
decreases-count l = 3 * l.p + 2

abbrev pub decreases-count_below : goal.decreases-count_below
decreases-count_below l = 3 * l.limit

abbrev pub decreases-count_children : goal.decreases-count_children
decreases-count_children l = 3 * l.place + 1

abbrev pub decreases-count_parts : goal.decreases-count_parts
decreases-count_parts l = 3 * l.limit + 1
