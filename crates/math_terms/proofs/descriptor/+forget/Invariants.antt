use Rattle.std.proofs.Common.{◌≡◌, map, take}
use Rattle.math_terms.specs.Kinds.{forget}
use Rattle.math_terms.proofs.descriptor.+forget.Given as goal

abbrev pub invariant-kinds_of_sorts-loop-s : goal.invariant-kinds_of_sorts-loop-s
invariant-kinds_of_sorts-loop-s l = l.out ≡ map forget (take l.s-index l.sorts)
