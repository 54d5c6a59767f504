-- Clauses as the code holds them, with references into the text.
use Rattle.std.specs.Prelude.{map}
use Rattle.math_types.specs.declared.clause.Clause.{Clause as Held}
use Rattle.math_types.specs.declared.clause.Group.{Group as HeldGroup}
use Rattle.math_types.specs.Clauses.{Clause, Group, clause, group}

abbrev pub seen : Held → Clause
seen c = clause c.wanted c.text.now

abbrev pub seen_group : HeldGroup → Group
seen_group g = group g.known (map seen g.clauses)
