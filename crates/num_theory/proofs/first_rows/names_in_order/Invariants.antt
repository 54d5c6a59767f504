use Rattle.std.proofs.Common.{◌≡◌, map, take}
use Rattle.num_theory.specs.working.Gathering.{sum_of}
use Rattle.num_theory.specs.Table.{Sum}
use Rattle.num_theory.proofs.first_rows.names_in_order.Given as goal

abbrev pub invariant-loop-sum : goal.invariant-loop-sum
invariant-loop-sum l = l.names ≡ map (λ (s : Sum). s.name) (map sum_of (take l.sum-index l.sums))
