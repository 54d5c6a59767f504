use Rattle.std.proofs.Common.{◌+◌, ◌*◌}
use Rattle.term_rewriting.proofs.taking.+take.Given as goal

abbrev pub decreases-take : goal.decreases-take
decreases-take l = 3 * l.p + 2

abbrev pub decreases-take_below : goal.decreases-take_below
decreases-take_below l = 3 * l.limit

abbrev pub decreases-take_boxed : goal.decreases-take_boxed
decreases-take_boxed l = 3 * l.limit + 1

abbrev pub decreases-take_parts : goal.decreases-take_parts
decreases-take_parts l = 3 * l.limit + 1

abbrev pub decreases-take_onto : goal.decreases-take_onto
decreases-take_onto l = 3 * l.limit
