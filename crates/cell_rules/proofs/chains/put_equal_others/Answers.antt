use Rattle.std.proofs.Common.{◌+◌, arith, refl}
use Rattle.math_terms.specs.declared.term.Term.TheOpen.{Term-F}
use Rattle.math_terms.specs.Terms.{nodes}
use Rattle.str_theory.specs.Chains.{chain, joined}
use Rattle.cell_rules.specs.Chaining.{others_at}
use Rattle.cell_rules.proofs.Kept.{grows_more, grows_on, if_none, pushed_after, pushed_grows, short_after, short_more, two_there}
use Rattle.cell_rules.proofs.chains.put_equal_others.Goals as goal

pub returns-in_err-left-clause-grown : goal.returns-in_err-left-clause-grown
returns-in_err-left-clause-grown c = λ t u h g. grows_more _ _ _ _ (c.in_err-left.ensures.grown t h) (omega arith)

pub returns-in_err-left-clause-short : goal.returns-in_err-left-clause-short
returns-in_err-left-clause-short c = λ t u h g. if_none _ (short_more _ _ _ (c.in_err-left.ensures.short t h) (omega arith))

pub returns-in_err-right-clause-grown : goal.returns-in_err-right-clause-grown
returns-in_err-right-clause-grown c = λ t u h g.
    grows_on _ _ _ _ _ _ (c.in_ok-left.ensures.grown t h) (c.in_err-right.ensures.grown u (c.in_ok-left.ensures.keeps u _ g)) (omega arith)

pub returns-in_err-right-clause-short : goal.returns-in_err-right-clause-short
returns-in_err-right-clause-short c = λ t u h g.
    if_none _ (short_after _ _ _ _ _ (c.in_ok-left.ensures.grown t h) (c.in_err-right.ensures.short u (c.in_ok-left.ensures.keeps u _ g)) (omega arith))

pub returns-clause-grown : goal.returns-clause-grown
returns-clause-grown c = λ t u h g.
    let both = grows_on _ _ _ _ _ (nodes t + nodes u + 1) (c.in_ok-left.ensures.grown t h) (c.in_ok-right.ensures.grown u (c.in_ok-left.ensures.keeps u _ g)) (omega arith) in
    grows_on _ _ _ _ _ _ both (pushed_grows _ _ _ _ c.two.ensures.pushed) (omega arith)

pub returns-clause-short : goal.returns-clause-short
returns-clause-short c = λ t u h g.
    let both = grows_on _ _ _ _ _ (nodes t + nodes u + 1) (c.in_ok-left.ensures.grown t h) (c.in_ok-right.ensures.grown u (c.in_ok-left.ensures.keeps u _ g)) (omega arith) in
    pushed_after _ _ _ _ _ _ _ both c.two.ensures.pushed (omega arith)

pub returns-clause-standing : goal.returns-clause-standing
returns-clause-standing c = λ t u h g.
    let left = joined (others_at c.args.end (chain t)) in
    let right = joined (others_at c.args.end (chain u)) in
    two_there _ 18 (λ a b. Term-F.Eq a b) left right _ _ (record { form_is = refl; own_is = refl; children_are = refl }) (record { no_tuple = refl; no_remainder = refl }) refl
    (c.two.ensures.node left right (c.in_ok-right.ensures.keeps left _ (c.in_ok-left.ensures.standing t h)) (c.in_ok-right.ensures.standing u (c.in_ok-left.ensures.keeps u _ g)))
