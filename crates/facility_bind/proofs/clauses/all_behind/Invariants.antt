use Rattle.std.proofs.Common.{◌≡◌, [], map, take}
use Rattle.math_terms.specs.Filling.{filled}
use Rattle.facility_bind.proofs.clauses.all_behind.Given as goal

abbrev pub invariant-loop-t : goal.invariant-loop-t
invariant-loop-t l = l.out ≡ map (filled l.places []) (take l.t-index l.terms)
