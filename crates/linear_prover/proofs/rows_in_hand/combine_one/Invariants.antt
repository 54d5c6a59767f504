use Rattle.std.proofs.Common.{◌≡◌, drop}
use Rattle.linear_prover.specs.Elimination.{combine_one}
use Rattle.linear_prover.proofs.rows_in_hand.combine_one.Given as goal

abbrev pub invariant-loop-b : goal.invariant-loop-b
invariant-loop-b l =
    combine_one l.n l.atom l.a (drop l.b-index l.below) l.hand.rows.items l.hand.made.items ≡ combine_one l.n l.atom l.a l.below l.initial.hand.rows.items l.initial.hand.made.items
