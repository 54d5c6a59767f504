use Rattle.std.proofs.Common.{◌+◌, ◌*◌}
use Rattle.math_terms.specs.Terms.{nodes}
use Rattle.num_theory.proofs.forms.+form.Given as goal

abbrev pub decreases-raw_form : goal.decreases-raw_form
decreases-raw_form l = 4 * nodes l.t.now

abbrev pub decreases-form_of_two : goal.decreases-form_of_two
decreases-form_of_two l = 4 * (nodes l.a.now + nodes l.b.now) + 3

abbrev pub decreases-sum_form : goal.decreases-sum_form
decreases-sum_form l = 4 * (nodes l.a.now + nodes l.b.now) + 1

abbrev pub decreases-difference_form : goal.decreases-difference_form
decreases-difference_form l = 4 * (nodes l.a.now + nodes l.b.now) + 1

abbrev pub decreases-product_form : goal.decreases-product_form
decreases-product_form l = 4 * (nodes l.a.now + nodes l.b.now) + 1

abbrev pub decreases-remainder_by : goal.decreases-remainder_by
decreases-remainder_by l = 4 * (nodes l.a.now + nodes l.b.now) + 1

abbrev pub decreases-remainder_form : goal.decreases-remainder_form
decreases-remainder_form l = 4 * (nodes l.a.now + nodes l.b.now) + 2
