use Rattle.std.proofs.Common.{◌≡◌, drop}
use Rattle.std.specs.List.{find}
use Rattle.math_types.specs.Types.{is_type_of}
use Rattle.math_types.proofs.types.find_type.Given as goal

abbrev pub invariant-loop-formal : goal.invariant-loop-formal
invariant-loop-formal l = find (is_type_of l.name) l.formals ≡ find (is_type_of l.name) (drop l.formal-index l.formals)
