use Rattle.std.proofs.Common.{◌≡◌, ◌+◌, ◌*◌, map, sum_by, take}
use Rattle.math_terms.specs.Terms.{nodes, put}
use Rattle.math_terms.specs.Filling.{filled}
use Rattle.math_terms.specs.working.Sources.{meant}
use Rattle.math_terms.proofs.Fillings.{initial_nodes, source_weight, weight}
use Rattle.math_terms.proofs.insertion.+put.Given as goal

abbrev pub decreases-put_into : goal.decreases-put_into
decreases-put_into l = source_weight l.by + 2 * nodes l.t.now

abbrev pub decreases-put_into_boxed : goal.decreases-put_into_boxed
decreases-put_into_boxed l = source_weight l.by + 2 * nodes l.a.now + 1

abbrev pub decreases-put_into_all : goal.decreases-put_into_all
decreases-put_into_all l = source_weight l.by + 2 * sum_by nodes l.terms.now + 1

abbrev pub invariant-put_into_all-loop-t : goal.invariant-put_into_all-loop-t
invariant-put_into_all-loop-t l = l.out ≡ map (put l.v (meant l.by)) (take l.t-index l.terms)

abbrev pub decreases-put_at : goal.decreases-put_at
decreases-put_at l = source_weight l.by + 1

abbrev pub decreases-made : goal.decreases-made
decreases-made l = source_weight l.by

abbrev pub decreases-fill_into : goal.decreases-fill_into
decreases-fill_into l = 2 * weight l.descs.now l.t.now

abbrev pub decreases-fill_boxed : goal.decreases-fill_boxed
decreases-fill_boxed l = 2 * weight l.descs.now l.a.now + 1

abbrev pub decreases-fill_all : goal.decreases-fill_all
decreases-fill_all l = 2 * sum_by (weight l.descs.now) l.terms.now + 1

abbrev pub invariant-fill_all-loop-t : goal.invariant-fill_all-loop-t
invariant-fill_all-loop-t l = l.out ≡ map (filled l.vars l.descs) (take l.t-index l.terms)

abbrev pub decreases-initial : goal.decreases-initial
decreases-initial l = 2 * weight l.descs.now l.a.now + 2 * sum_by initial_nodes l.descs.now + 3
