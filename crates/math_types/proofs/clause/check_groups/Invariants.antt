use Rattle.std.proofs.Common.{◌≡◌, map, drop}
use Rattle.math_types.specs.Clauses.{first_refusal}
use Rattle.math_types.specs.working.Seen.{seen_group}
use Rattle.math_types.proofs.clause.check_groups.Given as goal

abbrev pub invariant-loop-group : goal.invariant-loop-group
invariant-loop-group l = first_refusal l.types (map seen_group l.groups) ≡ first_refusal l.types (map seen_group (drop l.group-index l.groups))
