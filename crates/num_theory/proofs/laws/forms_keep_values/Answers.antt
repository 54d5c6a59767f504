use Rattle.num_theory.proofs.FormValues.{forms_keep_values}
use Rattle.num_theory.proofs.laws.forms_keep_values.Goals as goal

pub returns : goal.returns
returns c = forms_keep_values c.same_terms_are_equal.ensures
