use Rattle.std.proofs.Common.{◌≡◌, ◌++◌, length, reverse}
use Rattle.math_terms.proofs.operations.reversed.Given as goal

abbrev pub invariant-loop-v : goal.invariant-loop-v
invariant-loop-v l = l.out ++ reverse l.rest ≡ reverse l.fn.entries

abbrev pub decreases-loop-v : goal.decreases-loop-v
decreases-loop-v l = length l.rest
