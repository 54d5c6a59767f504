use Rattle.std.proofs.Common.{◌≡◌, map, take}
use Rattle.math_terms.specs.Kinds.{sort_of_desc}
use Rattle.math_terms.proofs.descriptor.+sort.Given as goal

abbrev pub invariant-sorts_of-loop-d : goal.invariant-sorts_of-loop-d
invariant-sorts_of-loop-d l = l.out ≡ map sort_of_desc (take l.d-index l.descs)
