use Rattle.std.proofs.Common.{◌∙◌, sym}
use Rattle.std.proofs.lemmas.Result.{IfOk-weaker}
use Rattle.math_terms.specs.Kinds.{kind, kind_step}
use Rattle.math_terms.proofs.Heads.{fold_at_one, fold_at_two}
use Rattle.math_terms.proofs.kinds.+kind.Goals as goal

pub kind_of-returns-in-One : goal.kind_of-returns-in-One
kind_of-returns-in-One t c =
    let vars = c.args.vars.now in
    let a = c.in-One.field-1.now in
    IfOk-weaker c.kind_of_one.result _ _ (λ s h. h ∙ sym (fold_at_one (kind_step vars) c.in-One.op a c.args.t.now c.in-One.ensures))
    (c.kind_of_one.ensures vars (kind vars a))

pub kind_of-returns-in-Two : goal.kind_of-returns-in-Two
kind_of-returns-in-Two t c =
    let vars = c.args.vars.now in
    let a = c.in-Two.field-1.now in
    let b = c.in-Two.field-2.now in
    IfOk-weaker c.kind_of_two.result _ _ (λ s h. h ∙ sym (fold_at_two (kind_step vars) c.in-Two.op a b c.args.t.now c.in-Two.ensures))
    (c.kind_of_two.ensures vars (kind vars a) (kind vars b))
