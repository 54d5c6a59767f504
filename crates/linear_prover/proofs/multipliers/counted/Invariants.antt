use Rattle.std.proofs.Common.{◌≡◌, ◌≤◌, ◌<◌, ℕ, length, take, count_by, slice_index}
use Rattle.linear_prover.proofs.multipliers.counted.Given as goal

abbrev pub invariant-loop-flag : goal.invariant-loop-flag
invariant-loop-flag l = record {
  count : l.count ≡ count_by (λ f. f) (take l.flag-index l.flags);
  few : l.count ≤ l.flag-index;
  long : length l.places.items ≡ l.flag-index;
  each : (k : ℕ) → k < l.flag-index → slice_index l.places.items k ≡ count_by (λ f. f) (take k l.flags);
}
