use Rattle.std.proofs.Common.{◌≡◌, length, take}
use Rattle.math_terms.proofs.term.+same.Given as goal

abbrev pub invariant-same_terms-loop-x : goal.invariant-same_terms-loop-x
invariant-same_terms-loop-x l = take (length l.yielded) l.a ≡ take (length l.yielded) l.b
