use Rattle.std.proofs.Common.{◌≡◌, ◌∙◌, ap, ◌&&◌, true, [], SFits, w64}
use Rattle.std.proofs.lemmas.Int.{to_z-of_z}
use Rattle.num_theory.specs.Linear.{constant_form, minus_one}
use Rattle.num_theory.specs.Number.{is_narrow, product}
use Rattle.cell_rows.specs.Forms.{FormStands}
use Rattle.cell_rows.proofs.forms.negated_constant.Goals as goal

pub returns-clause-constant : goal.returns-clause-constant
returns-clause-constant c =
    let fits : SFits w64 c.args.number = c.ranges.number in
    let exact : FormStands [] (constant_form c.args.number) 0 c.constant_form-exact.result [] = simp to_z-of_z at (c.constant_form-exact.ensures.form [] 0 []) in
    c.times-constant.ensures ∙ ap (product minus_one) exact.constant_is

pub returns-clause-narrow : goal.returns-clause-narrow
returns-clause-narrow c =
    let fits : SFits w64 c.args.number = c.ranges.number in
    let exact : FormStands [] (constant_form c.args.number) 0 c.constant_form-exact.result [] = simp to_z-of_z at (c.constant_form-exact.ensures.form [] 0 []) in
    let constant : c.times-constant.result ≡ product minus_one (constant_form c.args.number).constant = c.times-constant.ensures ∙ ap (product minus_one) exact.constant_is in
    c.all_narrow-is_narrow.ensures ∙ (λ i. exact.narrow_is i && true && is_narrow (constant i))
