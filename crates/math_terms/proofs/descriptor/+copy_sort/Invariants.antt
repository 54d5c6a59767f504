use Rattle.std.proofs.Common.{◌≡◌, take}
use Rattle.math_terms.proofs.descriptor.+copy_sort.Given as goal

abbrev pub invariant-copy_sorts-loop-s : goal.invariant-copy_sorts-loop-s
invariant-copy_sorts-loop-s l = l.out ≡ take l.s-index l.sorts
