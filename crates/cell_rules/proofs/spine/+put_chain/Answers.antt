use Rattle.std.proofs.Common.{arith, refl, subst, sym, Some}
use Rattle.math_terms.specs.declared.term.Term.TheOpen.{Term-F}
use Rattle.term_cells.specs.Growing.{StandsThere}
use Rattle.str_theory.specs.Chains.{chain, joined}
use Rattle.cell_rules.proofs.Chained.{few_joined, rest_joined}
use Rattle.cell_rules.proofs.Kept.{grows_more, grows_on, if_none, pushed_after, pushed_grows, short_more, two_there}
use Rattle.cell_rules.proofs.spine.+put_chain.Goals as goal

pub returns-in_default-clause-standing : goal.returns-in_default-clause-standing
returns-in_default-clause-standing m c = λ t h.
    subst (λ u. StandsThere c.args.cells.now.0 u (Some c.first_part.result)) (sym (few_joined (chain t) (c.in_default.ensures.longer t h))) (c.first_part.ensures t h)

pub returns-in_err-rest-clause-grown : goal.returns-in_err-rest-clause-grown
returns-in_err-rest-clause-grown m c = λ t h.
    let r = c.in-Some.ensures.longer t h in
    grows_more _ _ _ _ (c.in_err-rest.ensures.grown r.rest r.rest_stands) (omega (arith, r.smaller))

pub returns-in_err-rest-clause-short : goal.returns-in_err-rest-clause-short
returns-in_err-rest-clause-short m c = λ t h.
    let r = c.in-Some.ensures.longer t h in
    if_none _ (short_more _ _ _ (c.in_err-rest.ensures.short r.rest r.rest_stands) (omega (arith, r.smaller)))

pub returns-clause-grown : goal.returns-clause-grown
returns-clause-grown m c = λ t h.
    let r = c.in-Some.ensures.longer t h in
    grows_on _ _ _ _ _ _ (c.in_ok-rest.ensures.grown r.rest r.rest_stands) (pushed_grows _ _ _ _ c.two.ensures.pushed) (omega (arith, r.smaller))

pub returns-clause-short : goal.returns-clause-short
returns-clause-short m c = λ t h.
    let r = c.in-Some.ensures.longer t h in
    pushed_after _ _ _ _ _ _ _ (c.in_ok-rest.ensures.grown r.rest r.rest_stands) c.two.ensures.pushed (omega (arith, r.smaller))

pub returns-clause-standing : goal.returns-clause-standing
returns-clause-standing m c = λ t h.
    let r = c.in-Some.ensures.longer t h in
    two_there _ 13 (λ a b. Term-F.Cat a b) r.first (joined (chain r.rest)) _ _ (record { form_is = refl; own_is = refl; children_are = refl }) (record { no_tuple = refl; no_remainder = refl })
    (rest_joined c.args.cells.now.0 t _ r)
    (c.two.ensures.node r.first (joined (chain r.rest)) (c.in_ok-rest.ensures.keeps r.first _ r.first_stands) (c.in_ok-rest.ensures.standing r.rest r.rest_stands))
