use Rattle.std.proofs.Common.{◌≡◌, ◌++◌, length}
use Rattle.module_parser.proofs.state.stacked.Given as goal

abbrev pub invariant-loop-item : goal.invariant-loop-item
invariant-loop-item g l = l.left ++ l.out ≡ l.fn.items

abbrev pub decreases-loop-item : goal.decreases-loop-item
decreases-loop-item g l = length l.left
