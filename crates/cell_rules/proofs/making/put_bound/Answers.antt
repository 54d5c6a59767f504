use Rattle.std.proofs.Common.{arith, refl}
use Rattle.math_terms.specs.declared.term.Term.TheOpen.{Term-F}
use Rattle.cell_rules.proofs.Kept.{count_kept, grows_on, kept, pushed_grows, two_there}
use Rattle.cell_rules.proofs.making.put_bound.Goals as goal

pub returns-clause-grown : goal.returns-clause-grown
returns-clause-grown c =
    grows_on _ _ _ 7 2 8 (grows_on _ _ _ 4 4 7 c.in_ok-less.ensures.grown c.in_ok-more.ensures.grown (omega arith)) (pushed_grows _ _ _ _ c.two.ensures.pushed) (omega arith)

pub returns-clause-standing : goal.returns-clause-standing
returns-clause-standing c = λ t h.
    let law = c.standing_lasts.ensures in
    let less = c.in_ok-less.ensures.standing h.0 h.2 in
    let more = c.in_ok-more.ensures.standing h.1 (count_kept law _ _ _ c.in_ok-less.ensures.grown c.args.bound.more h.1 h.3) in
    two_there _ 20 (λ a b. Term-F.LessEq a b) h.0 h.1 t _ (record { form_is = refl; own_is = refl; children_are = refl }) (record { no_tuple = refl; no_remainder = refl }) h.4
    (c.two.ensures.node h.0 h.1 (kept law _ _ _ c.in_ok-more.ensures.grown h.0 _ less) more)
