use Rattle.std.proofs.Common.{◌≡◌, ◌∙◌, sym, ap, subst, false, map, Option, Ok}
use Rattle.std.proofs.lemmas.List.{take_all}
use Rattle.std.proofs.lemmas.List.Folds.{list_all_at}
use Rattle.std.specs.List.{list_all}
use Rattle.math_terms.specs.declared.term.Term.TheOpen.{Term-F}
use Rattle.math_terms.specs.declared.value.Value.{Value}
use Rattle.math_terms.specs.Plain.{is_plain, plain_step}
use Rattle.math_terms.specs.working.Evaluating.{IsEvaluation, plain, plain_value}
use Rattle.math_terms.proofs.Evaluations.{evaluated_at, tuple_answer, tuple_none}
use Rattle.math_terms.proofs.Heads.{fold_at, fold_at_one, fold_at_two}
use Rattle.math_terms.proofs.evaluation.+evaluate.Goals as goal

pub evaluate-returns-in-One : goal.evaluate-returns-in-One
evaluate-returns-in-One t c =
    let a = c.in-One.a.now in
    evaluated_at c.args.t.now _ c.from_one.result (fold_at_one plain_step c.in-One.op a c.args.t.now c.in-One.ensures)
    (c.from_one.ensures (plain a) c.evaluate.ensures)

pub evaluate-returns-in-Two : goal.evaluate-returns-in-Two
evaluate-returns-in-Two t c =
    let a = c.in-Two.a.now in
    let b = c.in-Two.b.now in
    evaluated_at c.args.t.now _ c.from_two.result (fold_at_two plain_step c.in-Two.op a b c.args.t.now c.in-Two.ensures)
    (c.from_two.ensures (plain a) (plain b) c.evaluate-in-Two.ensures c.evaluate-in-Two-2.ensures)

pub evaluate-returns-in-Part : goal.evaluate-returns-in-Part
evaluate-returns-in-Part t c =
    let i = c.in-Part.i.now in
    let j = c.in-Part.j.now in
    let a = c.in-Part.a.now in
    evaluated_at c.args.t.now _ c.part.result (fold_at plain_step (Term-F.Part i j a) c.args.t.now c.in-Part.ensures)
    (c.part.ensures (plain i) (plain j) (plain a) c.evaluate-in-Part.ensures c.evaluate-in-Part-2.ensures c.evaluate-in-Part-3.ensures)

pub evaluate-returns-in-Proj : goal.evaluate-returns-in-Proj
evaluate-returns-in-Proj t c =
    let a = c.in-Proj.a.now in
    evaluated_at c.args.t.now _ c.projection.result (fold_at plain_step (Term-F.Proj c.in-Proj.k a) c.args.t.now c.in-Proj.ensures)
    (c.projection.ensures (plain a) c.evaluate-in-Proj.ensures)

pub evaluate_tuple-returns-in-None : goal.evaluate_tuple-returns-in-None
evaluate_tuple-returns-in-None t c =
    let item = c.t-item.result in
    let open_item : is_plain item ≡ false =
    subst (λ (o : Option Value). IsEvaluation (plain item) (Ok o)) c.in-None.is c.in_ok-v.ensures in
    tuple_none c.args.parts.now
    (list_all_at is_plain c.args.parts.now c.loop-t.t-index item c.loop-t-test.true (ap is_plain (sym c.t-item.is) ∙ open_item))

pub evaluate_tuple-returns : goal.evaluate_tuple-returns
evaluate_tuple-returns t c =
    let whole = take_all c.loop-t.t-index c.args.parts.now c.loop-t-test.false in
    tuple_answer c.args.parts.now c.loop-t.out (c.loop-t.invariant.values ∙ ap (map plain_value) whole)
    (ap (list_all is_plain) (sym whole) ∙ c.loop-t.invariant.plain)
