use Rattle.std.proofs.Common.{◌≤◌, ℕ, List, length}
use Rattle.linear_prover.specs.working.Eliminating.{AreFlags}
use Rattle.linear_prover.proofs.Marking.{IsKeeping, IsClosedFrom}
use Rattle.linear_prover.proofs.multipliers.mark_needed.Given as goal

abbrev pub decreases-loop-at : goal.decreases-loop-at
decreases-loop-at l = l.at

abbrev pub invariant-loop-at : goal.invariant-loop-at
invariant-loop-at l = record {
  within : l.at ≤ length l.made;
  needed : (needed : List ℕ) → AreFlags l.n l.initial.flags needed → IsKeeping l.n l.at l.flags l.made needed;
  closed : IsClosedFrom l.n l.at l.flags l.made;
}
