use Rattle.std.proofs.Common.{◌≡◌, length, take}
use Rattle.math_terms.proofs.value.+same.Given as goal

abbrev pub invariant-same_values-loop-x : goal.invariant-same_values-loop-x
invariant-same_values-loop-x l = take (length l.yielded) l.a ≡ take (length l.yielded) l.b
