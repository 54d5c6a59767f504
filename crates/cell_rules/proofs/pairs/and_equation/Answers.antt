use Rattle.std.proofs.Common.{arith, refl, Some}
use Rattle.math_terms.specs.declared.term.Term.TheOpen.{Term-F}
use Rattle.str_theory.specs.Forms.{eq}
use Rattle.cell_rules.proofs.Kept.{grows_on, kept, pushed_grows, two_there}
use Rattle.cell_rules.proofs.pairs.and_equation.Goals as goal

pub returns-clause-grown : goal.returns-clause-grown
returns-clause-grown c = grows_on _ _ _ 2 2 3 (pushed_grows _ _ _ _ c.two.ensures.pushed) (pushed_grows _ _ _ _ c.two-2.ensures.pushed) (omega arith)

pub returns-clause-standing : goal.returns-clause-standing
returns-clause-standing c = λ f t u h g k.
    let law = c.standing_lasts.ensures in
    let grown = pushed_grows _ _ _ _ c.two.ensures.pushed in
    let equation = two_there _ 18 (λ a b. Term-F.Eq a b) t u (eq t u) (Some c.in_ok-equation.equation) (record { form_is = refl; own_is = refl; children_are = refl }) (record { no_tuple = refl; no_remainder = refl }) refl
    (c.in_ok-equation.ensures.node t u g k) in
    two_there _ 22 (λ a b. Term-F.And a b) f (eq t u) _ _ (record { form_is = refl; own_is = refl; children_are = refl }) (record { no_tuple = refl; no_remainder = refl }) refl
    (c.two-2.ensures.node f (eq t u) (kept law _ _ _ grown f _ h) equation)
