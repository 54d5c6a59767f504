use Rattle.std.proofs.Common.{◌≡◌, take}
use Rattle.linear_prover.specs.Elimination.{numbered_from}
use Rattle.linear_prover.proofs.elimination.number_rows.Given as goal

abbrev pub invariant-loop-number : goal.invariant-loop-number
invariant-loop-number l = l.numbered.items ≡ numbered_from 0 (take l.number l.rows)
