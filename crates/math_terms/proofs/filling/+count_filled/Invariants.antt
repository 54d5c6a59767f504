use Rattle.std.proofs.Common.{◌≡◌, ◌+◌, min, sum_by, take}
use Rattle.math_terms.specs.working.Sources.{filled_count}
use Rattle.math_terms.proofs.filling.+count_filled.Given as goal

abbrev pub invariant-count_tuple-loop-t : goal.invariant-count_tuple-loop-t
invariant-count_tuple-loop-t l = l.total ≡ min (1 + sum_by (filled_count 10000 l.vars l.descs) (take l.t-index l.parts)) (10000 + 1)
