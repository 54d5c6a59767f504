use Rattle.std.proofs.Common.{◌≡◌, map, drop}
use Rattle.math_types.specs.Clauses.{first_in}
use Rattle.math_types.specs.working.Seen.{seen}
use Rattle.math_types.proofs.clause.check_clauses.Given as goal

abbrev pub invariant-loop-clause : goal.invariant-loop-clause
invariant-loop-clause l = first_in l.known l.types (map seen l.clauses) ≡ first_in l.known l.types (map seen (drop l.clause-index l.clauses))
