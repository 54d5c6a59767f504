use Rattle.std.proofs.Common.{◌≡◌, [], drop}
use Rattle.math_types.specs.Types.{names_from}
use Rattle.math_types.proofs.types.names_of_families.Given as goal

abbrev pub invariant-loop-f : goal.invariant-loop-f
invariant-loop-f l = names_from l.families [] l.families ≡ names_from l.families l.known (drop l.f-index l.families)
