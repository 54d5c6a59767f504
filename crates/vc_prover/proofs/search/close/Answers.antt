use Rattle.vc_prover.specs.Search.{most_ends}
use Rattle.vc_prover.proofs.search.close.Goals as goal

pub returns-then-done-ge-MOST_ENDS-clause-refused : goal.returns-then-done-ge-MOST_ENDS-clause-refused
unfolding most_ends
returns-then-done-ge-MOST_ENDS-clause-refused c = λ _. c.if-done-ge-MOST_ENDS.true

pub returns-clause-few : goal.returns-clause-few
unfolding most_ends
returns-clause-few c = c.if-done-ge-MOST_ENDS.false
