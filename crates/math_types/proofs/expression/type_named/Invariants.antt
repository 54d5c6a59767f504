use Rattle.std.proofs.Common.{◌≡◌, drop}
use Rattle.std.specs.List.{find}
use Rattle.type_inst.specs.Assertions.{is_named}
use Rattle.math_types.proofs.expression.type_named.Given as goal

abbrev pub invariant-loop-own : goal.invariant-loop-own
invariant-loop-own l = find (is_named l.name) l.types ≡ find (is_named l.name) (drop l.own-index l.types)
