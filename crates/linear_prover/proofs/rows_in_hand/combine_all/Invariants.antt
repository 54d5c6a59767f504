use Rattle.std.proofs.Common.{◌≡◌, drop}
use Rattle.linear_prover.specs.Elimination.{combine_all}
use Rattle.linear_prover.proofs.rows_in_hand.combine_all.Given as goal

abbrev pub invariant-loop-a : goal.invariant-loop-a
invariant-loop-a l =
    combine_all l.n l.atom (drop l.a-index l.above) l.below l.hand.rows.items l.hand.made.items ≡ combine_all l.n l.atom l.above l.below l.initial.hand.rows.items l.initial.hand.made.items
