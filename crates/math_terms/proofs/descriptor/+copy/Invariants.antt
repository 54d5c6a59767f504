use Rattle.std.proofs.Common.{◌≡◌, take}
use Rattle.math_terms.proofs.descriptor.+copy.Given as goal

abbrev pub invariant-copy_descs-loop-d : goal.invariant-copy_descs-loop-d
invariant-copy_descs-loop-d l = l.out ≡ take l.d-index l.descs
