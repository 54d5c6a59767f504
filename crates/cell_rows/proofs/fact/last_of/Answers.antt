use Rattle.std.proofs.Common.{List, drop, pos, SFits, w64}
use Rattle.std.proofs.lemmas.Int.{to_z-of_z}
use Rattle.num_theory.specs.Linear.{constant_form, plus}
use Rattle.cell_rows.specs.working.Facts.{multiple_form}
use Rattle.cell_rows.specs.Forms.{FormStands, Mark}
use Rattle.cell_rows.proofs.fact.last_of.Goals as goal

pub returns-clause-form : goal.returns-clause-form
returns-clause-form c = λ q h.
    let cells = c.args.cells.now.0 in
    let fits : SFits w64 c.args.number = c.ranges.number in
    let n = c.in_ok-product.product.count in
    let first : List Mark = c.multiple_of.new.marks in
    let past : List Mark = c.plus-past.new.marks in
    let product : FormStands cells (multiple_form c.args.number q) 1 c.in_ok-product.product first = simp to_z-of_z at (c.in_ok-product.ensures.form cells q h) in
    let number : FormStands cells (constant_form c.args.number) 0 c.constant_form.result (drop n first) = simp to_z-of_z at (c.constant_form.ensures.form cells 0 (drop n first)) in
    let both = c.plus-past.ensures.form (multiple_form c.args.number q) (constant_form c.args.number) 1 0 product number in
    c.minus.ensures.form (plus (multiple_form c.args.number q) (constant_form c.args.number)) (constant_form (pos 1)) 1 0 both (c.constant_form-2.ensures.form cells 0 (drop c.plus-past.result.count past))
