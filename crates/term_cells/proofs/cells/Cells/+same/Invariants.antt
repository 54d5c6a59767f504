use Rattle.std.proofs.Common.{◌+◌, ◌*◌}
use Rattle.term_cells.proofs.cells.Cells.+same.Given as goal

abbrev pub decreases-same : goal.decreases-same
decreases-same l = 3 * l.p + 2

abbrev pub decreases-same_below : goal.decreases-same_below
decreases-same_below l = 3 * l.limit

abbrev pub decreases-same_children : goal.decreases-same_children
decreases-same_children l = 3 * l.place + 1

abbrev pub decreases-same_parts : goal.decreases-same_parts
decreases-same_parts l = 3 * l.p + 1
