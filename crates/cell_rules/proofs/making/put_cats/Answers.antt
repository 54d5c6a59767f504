use Rattle.std.proofs.Common.{arith, refl}
use Rattle.math_terms.specs.declared.term.Term.TheOpen.{Term-F}
use Rattle.str_theory.specs.Forms.{cat}
use Rattle.cell_rules.proofs.Kept.{grows_on, kept, pushed_grows, text_kept, two_there}
use Rattle.cell_rules.proofs.making.put_cats.Goals as goal

pub returns-clause-grown : goal.returns-clause-grown
returns-clause-grown c =
    grows_on _ _ _ 23 2 24 (grows_on _ _ _ 8 16 23 c.in_ok-first.ensures.grown c.in_ok-rest.ensures.grown (omega arith)) (pushed_grows _ _ _ _ c.two.ensures.pushed) (omega arith)

pub returns-clause-standing : goal.returns-clause-standing
returns-clause-standing c = λ a b d h g f.
    let law = c.standing_lasts.ensures in
    let grown = c.in_ok-first.ensures.grown in
    let first = c.in_ok-first.ensures.standing a h in
    let rest = c.in_ok-rest.ensures.standing b d (text_kept law _ _ _ grown c.args.second b g) (text_kept law _ _ _ grown c.args.third d f) in
    two_there _ 13 (λ a b. Term-F.Cat a b) a (cat b d) _ _ (record { form_is = refl; own_is = refl; children_are = refl }) (record { no_tuple = refl; no_remainder = refl }) refl
    (c.two.ensures.node a (cat b d) (kept law _ _ _ c.in_ok-rest.ensures.grown a _ first) rest)
