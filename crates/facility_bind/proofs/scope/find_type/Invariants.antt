use Rattle.std.proofs.Common.{◌≡◌, drop}
use Rattle.std.specs.List.{find}
use Rattle.facility_bind.specs.Scopes.{is_written}
use Rattle.facility_bind.proofs.scope.find_type.Given as goal

abbrev pub invariant-loop-t : goal.invariant-loop-t
invariant-loop-t l = find (is_written l.facility l.name) l.types ≡ find (is_written l.facility l.name) (drop l.t-index l.types)
