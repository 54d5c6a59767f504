use Rattle.std.proofs.Common.{◌≡◌, ◌+◌, ◌*◌, map, take, sum_by, Some}
use Rattle.math_terms.specs.Terms.{nodes}
use Rattle.math_terms.specs.Sorts.{all_sorts, sorting}
use Rattle.math_terms.proofs.Walks.{IsPast}
use Rattle.math_terms.proofs.sorts.+walk.Given as goal

abbrev pub decreases-walk : goal.decreases-walk
decreases-walk l = 2 * nodes l.t.now

abbrev pub decreases-walk_two : goal.decreases-walk_two
decreases-walk_two l = 2 * (nodes l.a.now + nodes l.b.now) + 1

abbrev pub decreases-walk_part : goal.decreases-walk_part
decreases-walk_part l = 2 * (nodes l.i.now + nodes l.j.now + nodes l.a.now) + 1

abbrev pub decreases-walk_all : goal.decreases-walk_all
decreases-walk_all l = 2 * sum_by nodes l.parts.now + 1

abbrev pub invariant-walk_all-loop-t : goal.invariant-walk_all-loop-t
invariant-walk_all-loop-t l = record {
  found : all_sorts (map (λ p. p.0) (map (sorting l.vars) (take l.t-index l.parts))) ≡ Some l.sorts;
  past : IsPast l.start (map (sorting l.vars) (take l.t-index l.parts)) l.next;
}
