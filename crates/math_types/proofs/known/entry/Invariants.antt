use Rattle.std.proofs.Common.{◌≡◌, drop}
use Rattle.std.specs.List.{find}
use Rattle.math_types.specs.Names.{is_of}
use Rattle.math_types.proofs.known.entry.Given as goal

abbrev pub invariant-loop-own : goal.invariant-loop-own
invariant-loop-own l = find (is_of l.name) l.known ≡ find (is_of l.name) (drop l.own-index l.known)
