use Rattle.std.proofs.Common.{arith, refl}
use Rattle.math_terms.specs.declared.term.Term.TheOpen.{Term-F}
use Rattle.cell_rules.proofs.Kept.{grows_on, kept, pushed_grows, text_kept, two_there}
use Rattle.cell_rules.proofs.making.put_cat.Goals as goal

pub returns-clause-grown : goal.returns-clause-grown
returns-clause-grown c =
    grows_on _ _ _ 15 2 16 (grows_on _ _ _ 8 8 15 c.in_ok-left.ensures.grown c.in_ok-right.ensures.grown (omega arith)) (pushed_grows _ _ _ _ c.two.ensures.pushed) (omega arith)

pub returns-clause-standing : goal.returns-clause-standing
returns-clause-standing c = λ a b h g.
    let law = c.standing_lasts.ensures in
    let left = c.in_ok-left.ensures.standing a h in
    let right = c.in_ok-right.ensures.standing b (text_kept law _ _ _ c.in_ok-left.ensures.grown c.args.right b g) in
    two_there _ 13 (λ a b. Term-F.Cat a b) a b _ _ (record { form_is = refl; own_is = refl; children_are = refl }) (record { no_tuple = refl; no_remainder = refl }) refl
    (c.two.ensures.node a b (kept law _ _ _ c.in_ok-right.ensures.grown a _ left) right)
