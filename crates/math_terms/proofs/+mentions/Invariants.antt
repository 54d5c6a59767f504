use Rattle.std.proofs.Common.{◌≡◌, ◌+◌, ◌*◌, false, sum_by, take}
use Rattle.std.specs.List.{list_any}
use Rattle.math_terms.specs.Mentions.{mentions}
use Rattle.math_terms.specs.Terms.{nodes}
use Rattle.math_terms.proofs.+mentions.Given as goal

abbrev pub decreases-term::Term::mentions : goal.decreases-term::Term::mentions
decreases-term::Term::mentions l = 2 * nodes l.self.now

abbrev pub decreases-mentions::some_mentions : goal.decreases-mentions::some_mentions
decreases-mentions::some_mentions l = 2 * sum_by nodes l.terms.now + 1

abbrev pub invariant-mentions::some_mentions-loop-t : goal.invariant-mentions::some_mentions-loop-t
invariant-mentions::some_mentions-loop-t l = list_any (mentions l.v) (take l.t-index l.terms) ≡ false
