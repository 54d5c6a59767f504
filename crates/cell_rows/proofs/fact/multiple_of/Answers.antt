use Rattle.std.proofs.Common.{SFits, w64, arith}
use Rattle.std.proofs.lemmas.Int.{to_z-of_z}
use Rattle.num_theory.specs.Linear.{atom_form, constant_form}
use Rattle.cell_rows.specs.Forms.{FormStands}
use Rattle.cell_rows.proofs.fact.multiple_of.Goals as goal

pub returns-in_err-atom-clause-form : goal.returns-in_err-atom-clause-form
returns-in_err-atom-clause-form c = λ cells q h. rw c.from_residual.ensures (c.in_err-atom.ensures.form cells q 1 h (omega arith))

pub returns-clause-form : goal.returns-clause-form
returns-clause-form c = λ cells q h.
    let fits : SFits w64 c.args.number = c.ranges.number in
    let number : FormStands cells (constant_form c.args.number) 1 c.constant_form.result c.atom_form.new.marks = simp to_z-of_z at (c.constant_form.ensures.form cells 1 c.atom_form.new.marks) in
    c.multiple.ensures.form cells (constant_form c.args.number) (atom_form q) 1 number.constant_is number.narrow_is (c.in_ok-atom.ensures.form cells q 1 h (omega arith))
