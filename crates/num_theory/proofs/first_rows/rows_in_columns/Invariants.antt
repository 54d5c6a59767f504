use Rattle.std.proofs.Common.{◌≡◌, map, take}
use Rattle.num_theory.specs.working.Gathering.{sum_of}
use Rattle.num_theory.specs.Table.{row_of}
use Rattle.num_theory.proofs.first_rows.rows_in_columns.Given as goal

abbrev pub invariant-loop-sum : goal.invariant-loop-sum
invariant-loop-sum l = l.rows ≡ map (row_of l.atoms) (map sum_of (take l.sum-index l.sums))
