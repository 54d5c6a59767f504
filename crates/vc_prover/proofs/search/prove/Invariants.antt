use Rattle.std.proofs.Common.{reverse, sum_by}
use Rattle.vc_sequents.specs.Ending.{work}
use Rattle.vc_prover.proofs.Standing.{Standing}
use Rattle.vc_prover.proofs.search.prove.Given as goal

abbrev pub invariant-loop-next : goal.invariant-loop-next
invariant-loop-next l = Standing l.s l.todo.items l.done

abbrev pub decreases-loop-next : goal.decreases-loop-next
decreases-loop-next l = sum_by work (reverse l.todo.items)
