use Rattle.std.proofs.Common.{◌≡◌, ◌++◌, reverse, vec_len}
use Rattle.vc_prover.proofs.search.put_back.Given as goal

abbrev pub invariant-loop-last : goal.invariant-loop-last
invariant-loop-last l = l.fn.parts.items ++ reverse l.initial.todo.items ≡ l.left.items ++ reverse l.todo.items

abbrev pub decreases-loop-last : goal.decreases-loop-last
decreases-loop-last l = vec_len l.left
