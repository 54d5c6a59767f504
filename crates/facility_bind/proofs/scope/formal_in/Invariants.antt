use Rattle.std.proofs.Common.{◌≡◌, drop}
use Rattle.std.specs.List.{find}
use Rattle.std.specs.Str.{bytes_eq}
use Rattle.facility_bind.proofs.scope.formal_in.Given as goal

abbrev pub invariant-loop-formal : goal.invariant-loop-formal
invariant-loop-formal l = find (λ p. bytes_eq l.name p.0) l.formals ≡ find (λ p. bytes_eq l.name p.0) (drop l.formal-index l.formals)
