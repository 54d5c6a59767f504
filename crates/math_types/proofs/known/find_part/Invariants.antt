use Rattle.std.proofs.Common.{◌≡◌, drop}
use Rattle.std.specs.List.{find}
use Rattle.std.specs.Str.{bytes_eq}
use Rattle.math_types.proofs.known.find_part.Given as goal

abbrev pub invariant-loop-part : goal.invariant-loop-part
invariant-loop-part l = find (λ q. bytes_eq q.0 l.name) l.parts ≡ find (λ q. bytes_eq q.0 l.name) (drop l.part-index l.parts)
