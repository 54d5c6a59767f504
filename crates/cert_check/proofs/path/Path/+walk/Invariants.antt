use Rattle.std.proofs.Common.{◌+◌, ◌-◌, ◌*◌, length}
use Rattle.cert_check.proofs.path.Path.+walk.Given as goal

-- how many steps are left
abbrev pub decreases-walk : goal.decreases-walk
decreases-walk l = 3 * (length l.steps.now - l.at) + 2

abbrev pub decreases-walk_split : goal.decreases-walk_split
decreases-walk_split l = 3 * (length l.steps.now - l.at) + 1

abbrev pub decreases-walk_case : goal.decreases-walk_case
decreases-walk_case l = 3 * (length l.steps.now - l.at) + 3
