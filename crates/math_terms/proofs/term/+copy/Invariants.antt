use Rattle.std.proofs.Common.{◌≡◌, ◌+◌, ◌*◌, sum_by, take}
use Rattle.math_terms.specs.Terms.{nodes}
use Rattle.math_terms.proofs.term.+copy.Given as goal

abbrev pub decreases-Term::copy : goal.decreases-Term::copy
decreases-Term::copy l = 2 * nodes l.self.now

abbrev pub decreases-copy_boxed : goal.decreases-copy_boxed
decreases-copy_boxed l = 2 * nodes l.a.now + 1

abbrev pub decreases-copy_terms : goal.decreases-copy_terms
decreases-copy_terms l = 2 * sum_by nodes l.terms.now + 1

abbrev pub invariant-copy_terms-loop-t : goal.invariant-copy_terms-loop-t
invariant-copy_terms-loop-t l = l.out ≡ take l.t-index l.terms
