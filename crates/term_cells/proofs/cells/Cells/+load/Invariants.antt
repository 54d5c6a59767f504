use Rattle.std.proofs.Common.{◌+◌, ◌*◌, sum_by}
use Rattle.math_terms.specs.Terms.{nodes}
use Rattle.term_cells.proofs.cells.Cells.+load.Given as goal

abbrev pub decreases-load_node : goal.decreases-load_node
decreases-load_node l = 3 * nodes l.t.now

abbrev pub decreases-load_one : goal.decreases-load_one
decreases-load_one l = 3 * nodes l.a.now + 1

abbrev pub decreases-load_two : goal.decreases-load_two
decreases-load_two l = 3 * (nodes l.a.now + nodes l.b.now) + 1

abbrev pub decreases-load_three : goal.decreases-load_three
decreases-load_three l = 3 * (nodes l.a.now + nodes l.b.now + nodes l.c.now) + 1

abbrev pub decreases-load_tuple : goal.decreases-load_tuple
decreases-load_tuple l = 3 * sum_by nodes l.parts.now + 2

abbrev pub decreases-load_parts : goal.decreases-load_parts
decreases-load_parts l = 3 * sum_by nodes l.parts.now + 1
