use Rattle.std.proofs.Common.{◌∙◌, ap, subst, Result, Ok, Option, FitsSigned, rules}
use Rattle.std.proofs.lemmas.Int.{to_z-of_z}
use Rattle.std.specs.Int.{w128}
use Rattle.math_terms.specs.declared.name.NoMemory.{NoMemory}
use Rattle.math_terms.specs.declared.value.Value.{Value}
use Rattle.math_terms.specs.working.Evaluating.{IsEvaluation}
use Rattle.math_terms.proofs.Evaluations.{part_answer}
use Rattle.math_terms.proofs.evaluation.part.Goals as goal

pub returns-in-Some-3 : goal.returns-in-Some-3
returns-in-Some-3 c p q r hp hq hr =
    let fits_i : FitsSigned w128 c.number_of.result = search rules in
    let fits_j : FitsSigned w128 c.number_of-in-Some-3.result = search rules in
    let cut = simp to_z-of_z at c.in_ok-between-in-Some-3.ensures in
    part_answer p q r c.in-Some.i c.in-Some-2.j c.in-Some-3.a c.entries_of-entries.result c.in_ok-between-in-Some-3.between
    (subst (λ (e : Result (Option Value) NoMemory). IsEvaluation p e) (c.in_ok-i.was ∙ ap (λ (o : Option Value). Ok o) c.in-Some.is) hp)
    (subst (λ (e : Result (Option Value) NoMemory). IsEvaluation q e) (c.in_ok-j-in-Some.was ∙ ap (λ (o : Option Value). Ok o) c.in-Some-2.is) hq)
    (subst (λ (e : Result (Option Value) NoMemory). IsEvaluation r e) (c.in_ok-a-in-Some-2.was ∙ ap (λ (o : Option Value). Ok o) c.in-Some-3.is) hr)
    c.entries_of-entries.ensures
    (cc (cut, c.number_of.ensures, c.number_of-in-Some-3.ensures, c.as_slice.ensures))
