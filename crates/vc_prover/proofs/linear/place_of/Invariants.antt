use Rattle.std.proofs.Common.{◌≡◌, ◌+◌, drop}
use Rattle.vc_prover.specs.Search.{place_of}
use Rattle.vc_prover.proofs.linear.place_of.Given as goal

abbrev pub invariant-loop-at : goal.invariant-loop-at
invariant-loop-at l = place_of l.k l.numbers ≡ l.at + place_of l.k (drop l.at l.numbers)
