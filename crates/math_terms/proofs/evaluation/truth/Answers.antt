use Rattle.std.proofs.Common.{◌∙◌, sym, ap, subst, Option, Ok}
use Rattle.math_terms.specs.declared.value.Value.{Value}
use Rattle.math_terms.specs.Values.{truth}
use Rattle.math_terms.specs.Descriptors.{starts_in}
use Rattle.math_terms.specs.working.Evaluating.{IsEvaluation, plain}
use Rattle.math_terms.proofs.Closedness.{value_of_plain}
use Rattle.math_terms.proofs.evaluation.truth.Goals as goal

pub returns-in-Some : goal.returns-in-Some
returns-in-Some c =
    let f = c.args.f.now in
    let h = subst (λ (o : Option Value). IsEvaluation (plain f) (Ok o)) c.in-Some.is c.in_ok-v.ensures in
    (h.0, λ I w. ap truth (value_of_plain (starts_in I) w f h.0 ∙ sym h.1) ∙ sym c.truth_of.ensures)
