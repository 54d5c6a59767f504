use Rattle.std.proofs.Common.{◌+◌, Some, arith, refl}
use Rattle.math_terms.specs.declared.term.Term.TheOpen.{Term-F}
use Rattle.math_terms.specs.Terms.{nodes}
use Rattle.str_theory.specs.Forms.{eq}
use Rattle.cell_rules.specs.Chaining.{others_equal}
use Rattle.cell_rules.proofs.Kept.{grows_on, if_none, kept, pushed_after, pushed_grows, short_after, two_there}
use Rattle.cell_rules.proofs.chains.put_equal_singles.Goals as goal

pub returns-in_err-rest-clause-grown : goal.returns-in_err-rest-clause-grown
returns-in_err-rest-clause-grown c = λ t u h g.
    let one = pushed_grows _ _ _ _ c.two.ensures.pushed in
    let law = c.standing_lasts.ensures in
    grows_on _ _ _ _ _ _ one (c.in_err-rest.ensures.grown t u (kept law _ _ _ one t _ h) (kept law _ _ _ one u _ g)) (omega arith)

pub returns-in_err-rest-clause-short : goal.returns-in_err-rest-clause-short
returns-in_err-rest-clause-short c = λ t u h g.
    let one = pushed_grows _ _ _ _ c.two.ensures.pushed in
    let law = c.standing_lasts.ensures in
    if_none _ (short_after _ _ _ _ _ one (c.in_err-rest.ensures.short t u (kept law _ _ _ one t _ h) (kept law _ _ _ one u _ g)) (omega arith))

pub returns-clause-grown : goal.returns-clause-grown
returns-clause-grown c = λ t u h g.
    let one = pushed_grows _ _ _ _ c.two.ensures.pushed in
    let law = c.standing_lasts.ensures in
    let more = grows_on _ _ _ _ _ (nodes t + nodes u + 3) one (c.in_ok-rest.ensures.grown t u (kept law _ _ _ one t _ h) (kept law _ _ _ one u _ g)) (omega arith) in
    grows_on _ _ _ _ _ _ more (pushed_grows _ _ _ _ c.two-2.ensures.pushed) (omega arith)

pub returns-clause-short : goal.returns-clause-short
returns-clause-short c = λ t u h g.
    let one = pushed_grows _ _ _ _ c.two.ensures.pushed in
    let law = c.standing_lasts.ensures in
    let more = grows_on _ _ _ _ _ (nodes t + nodes u + 3) one (c.in_ok-rest.ensures.grown t u (kept law _ _ _ one t _ h) (kept law _ _ _ one u _ g)) (omega arith) in
    pushed_after _ _ _ _ _ _ _ more c.two-2.ensures.pushed (omega arith)

pub returns-clause-standing : goal.returns-clause-standing
returns-clause-standing c = λ t u x y h g k l.
    let law = c.standing_lasts.ensures in
    let one = pushed_grows _ _ _ _ c.two.ensures.pushed in
    let first = two_there _ 18 (λ a b. Term-F.Eq a b) x y (eq x y) (Some c.in_ok-first.first) (record { form_is = refl; own_is = refl; children_are = refl }) (record { no_tuple = refl; no_remainder = refl }) refl
    (c.in_ok-first.ensures.node x y k l) in
    let rest = c.in_ok-rest.ensures.standing t u (kept law _ _ _ one t _ h) (kept law _ _ _ one u _ g) in
    two_there _ 22 (λ a b. Term-F.And a b) (eq x y) (others_equal c.args.end t u) _ _ (record { form_is = refl; own_is = refl; children_are = refl }) (record { no_tuple = refl; no_remainder = refl }) refl
    (c.two-2.ensures.node (eq x y) (others_equal c.args.end t u) (c.in_ok-rest.ensures.keeps (eq x y) _ first) rest)
