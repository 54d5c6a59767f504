use Rattle.std.proofs.Common.{◌≡◌}
use Rattle.std.specs.List.{filter}
use Rattle.linear_prover.specs.Elimination.{is_above, is_below, is_without}
use Rattle.linear_prover.proofs.rows_in_hand.parted.Given as goal

abbrev pub invariant-loop-row : goal.invariant-loop-row
invariant-loop-row l = record {
  above : l.above.items ≡ filter (is_above l.atom) l.yielded;
  below : l.below.items ≡ filter (is_below l.atom) l.yielded;
  without : l.without.items ≡ filter (is_without l.atom) l.yielded;
}
