use Rattle.std.proofs.Common.{SFits, w64, arith}
use Rattle.std.proofs.lemmas.Int.{to_z-of_z}
use Rattle.num_theory.specs.Linear.{atom_form, constant_form, minus_one, times}
use Rattle.cell_rows.proofs.forms.rounded_form.Goals as goal

pub returns-in_err-atom-clause-form : goal.returns-in_err-atom-clause-form
returns-in_err-atom-clause-form c = λ cells q h. rw c.from_residual.ensures (c.in_err-atom.ensures.form cells q 1 h (omega arith))

pub returns-clause-form : goal.returns-clause-form
returns-clause-form c = λ cells q h.
    let fits : SFits w64 c.args.number = c.ranges.number in
    c.multiple.ensures.form cells (times minus_one (constant_form c.args.number)) (atom_form q) 1 (simp to_z-of_z at c.negated_constant.ensures.constant) (simp to_z-of_z at c.negated_constant.ensures.narrow) (c.in_ok-atom.ensures.form cells q 1 h (omega arith))
