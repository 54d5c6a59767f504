use Rattle.std.proofs.Common.{◌≡◌, ◌+◌, ◌*◌, ◌++◌, map, take, sum_by}
use Rattle.math_terms.specs.Terms.{nodes}
use Rattle.num_theory.specs.Texts.{piece, listed}
use Rattle.num_theory.proofs.texts.+write.Given as goal

abbrev pub decreases-write_term : goal.decreases-write_term
decreases-write_term l = 8 * nodes l.t.now

abbrev pub decreases-write_in_parentheses : goal.decreases-write_in_parentheses
decreases-write_in_parentheses l = 8 * nodes l.t.now + 1

abbrev pub decreases-write_operand : goal.decreases-write_operand
decreases-write_operand l = 8 * nodes l.t.now + 2

abbrev pub decreases-write_around : goal.decreases-write_around
decreases-write_around l = 8 * nodes l.a.now + 3

abbrev pub decreases-write_call : goal.decreases-write_call
decreases-write_call l = 8 * nodes l.a.now + 3

abbrev pub decreases-write_projection : goal.decreases-write_projection
decreases-write_projection l = 8 * nodes l.a.now + 3

abbrev pub decreases-write_one : goal.decreases-write_one
decreases-write_one l = 8 * nodes l.a.now + 4

abbrev pub decreases-write_two : goal.decreases-write_two
decreases-write_two l = 8 * (nodes l.a.now + nodes l.b.now) + 3

abbrev pub decreases-write_stretch : goal.decreases-write_stretch
decreases-write_stretch l = 8 * (nodes l.i.now + nodes l.j.now + nodes l.a.now) + 1

abbrev pub decreases-write_listed : goal.decreases-write_listed
decreases-write_listed l = 8 * sum_by nodes l.parts.now + 1

abbrev pub decreases-write_tuple : goal.decreases-write_tuple
decreases-write_tuple l = 8 * sum_by nodes l.parts.now + 2

abbrev pub invariant-write_listed-loop-k : goal.invariant-write_listed-loop-k
invariant-write_listed-loop-k l = l.out.items ≡ l.initial.out.items ++ listed (map piece (take l.k l.parts))
