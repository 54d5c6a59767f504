use Rattle.std.proofs.Common.{◌≡◌, ◌+◌, min, sum_by, take}
use Rattle.math_terms.specs.Terms.{count_up_to}
use Rattle.math_terms.proofs.nodes.+count.Given as goal

abbrev pub invariant-count_tuple-loop-t : goal.invariant-count_tuple-loop-t
invariant-count_tuple-loop-t l = l.total ≡ min (1 + sum_by (count_up_to l.v l.weight l.most) (take l.t-index l.parts)) (l.most + 1)
