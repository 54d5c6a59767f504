use Rattle.std.proofs.Common.{◌≡◌, drop, length}
use Rattle.std.specs.Cmp.Lexicographic.{pointwise}
use Rattle.type_rules.specs.Headings.{same_parameter}
use Rattle.type_rules.proofs.headings.same_parameters.Given as goal

abbrev pub invariant-loop-k : goal.invariant-loop-k
invariant-loop-k l = (length l.a ≡ length l.b) × (pointwise same_parameter l.a l.b ≡ pointwise same_parameter (drop l.k l.a) (drop l.k l.b))
