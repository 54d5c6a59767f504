use Rattle.std.proofs.Common.{◌≡◌, ◌+◌, drop}
use Rattle.linear_prover.specs.Elimination.{first_line}
use Rattle.linear_prover.proofs.elimination.first_line.Given as goal

abbrev pub invariant-loop-at : goal.invariant-loop-at
invariant-loop-at l = first_line (1 + l.at) (drop l.at l.rows) ≡ first_line 1 l.rows
