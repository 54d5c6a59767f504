use Rattle.std.proofs.Common.{◌+◌, ◌*◌}
use Rattle.cell_rows.proofs.forms.+form.Given as goal

abbrev pub decreases-form : goal.decreases-form
decreases-form l = 3 * l.p + 2

abbrev pub decreases-form_below : goal.decreases-form_below
decreases-form_below l = 3 * l.limit

abbrev pub decreases-sum_form : goal.decreases-sum_form
decreases-sum_form l = 3 * l.p + 1

abbrev pub decreases-difference_form : goal.decreases-difference_form
decreases-difference_form l = 3 * l.p + 1

abbrev pub decreases-product_form : goal.decreases-product_form
decreases-product_form l = 3 * l.p + 1

abbrev pub decreases-remainder_form : goal.decreases-remainder_form
decreases-remainder_form l = 3 * l.p + 1
