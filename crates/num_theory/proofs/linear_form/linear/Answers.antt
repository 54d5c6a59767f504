use Rattle.std.proofs.Common.{◌∙◌, sym, subst}
use Rattle.std.proofs.lemmas.Result.{IfOk-weaker}
use Rattle.num_theory.specs.Linear.{shown_form}
use Rattle.num_theory.specs.working.Making.{IsWellMade}
use Rattle.num_theory.proofs.FormValues.{forms_keep_values, shown_forms_keep_values}
use Rattle.num_theory.proofs.WellMade.{form_well}
use Rattle.num_theory.proofs.linear_form.linear.Goals as goal

pub shown_form-requires : goal.shown_form-requires
shown_form-requires c = subst IsWellMade (sym c.in_ok-raw_form.ensures) (form_well c.args.t.now)

pub returns-clause-value : goal.returns-clause-value
returns-clause-value c =
    IfOk-weaker c.shown_form.result _ _
    (λ form is. shown_forms_keep_values (forms_keep_values c.same_terms_are_equal.ensures) c.args.t.now form (is ∙ λ i. shown_form (c.in_ok-raw_form.ensures i)))
    c.shown_form.ensures
