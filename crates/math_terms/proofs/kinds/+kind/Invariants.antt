use Rattle.std.proofs.Common.{◌≡◌, ◌+◌, ◌*◌, map, take, sum_by}
use Rattle.math_terms.specs.Kinds.{kind}
use Rattle.math_terms.specs.Terms.{nodes}
use Rattle.math_terms.proofs.kinds.+kind.Given as goal

abbrev pub decreases-kind_of : goal.decreases-kind_of
decreases-kind_of l = 2 * nodes l.t.now

abbrev pub decreases-kinds_of : goal.decreases-kinds_of
decreases-kinds_of l = 2 * sum_by nodes l.parts.now + 1

abbrev pub invariant-kinds_of-loop-t : goal.invariant-kinds_of-loop-t
invariant-kinds_of-loop-t l = l.out ≡ map (kind l.vars) (take l.t-index l.parts)
