use Rattle.std.proofs.Common.{◌≡◌, take}
use Rattle.num_theory.specs.Rows.{greatest}
use Rattle.num_theory.proofs.row.largest.Given as goal

abbrev pub invariant-loop-number : goal.invariant-loop-number
invariant-loop-number l = l.most ≡ greatest (take l.number-index l.row)
