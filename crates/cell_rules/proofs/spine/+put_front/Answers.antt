use Rattle.std.proofs.Common.{ap, arith, refl, subst, sym, Some}
use Rattle.math_terms.specs.declared.term.Term.TheOpen.{Term-F}
use Rattle.term_cells.specs.Growing.{StandsThere}
use Rattle.str_theory.specs.Chains.{chain, front, joined}
use Rattle.cell_rules.proofs.Chained.{few_front, goes_on_longer, more_before, one_before}
use Rattle.cell_rules.proofs.Costs.{more_nodes}
use Rattle.cell_rules.proofs.Kept.{grows_more, grows_on, if_none, if_none_then, node_there, pushed_after, pushed_grows, pushed_short, short_more, two_there}
use Rattle.cell_rules.proofs.spine.+put_front.Goals as goal

pub returns-in_default-clause-standing : goal.returns-in_default-clause-standing
returns-in_default-clause-standing m c = λ t h.
    subst (λ u. StandsThere c.leaf.new.self.0 u c.leaf.result) (sym (ap joined (few_front (chain t) (c.in_default.ensures.longer t h))))
    (node_there _ 11 _ _ _ Term-F.Empty (record { form_is = refl; own_is = refl; children_are = refl }) (record { no_tuple = refl; no_remainder = refl }) c.leaf.ensures.node)

pub returns-in_default-longer-clause-standing : goal.returns-in_default-longer-clause-standing
returns-in_default-longer-clause-standing m c = λ t h.
    let r = c.in-Some.ensures.longer t h in
    subst (λ u. StandsThere c.args.cells.now.0 u (Some c.in-Some.first)) (sym (one_before c.args.cells.now.0 t _ r (c.in_default-longer.ensures.longer r.rest r.rest_stands))) r.first_stands

pub returns-in_err-rest-clause-grown : goal.returns-in_err-rest-clause-grown
returns-in_err-rest-clause-grown m c = λ t h.
    let r = c.in-Some.ensures.longer t h in
    grows_more _ _ _ _ (c.in_err-rest.ensures.grown r.rest r.rest_stands) (omega (arith, r.smaller))

pub returns-in_err-rest-clause-short : goal.returns-in_err-rest-clause-short
returns-in_err-rest-clause-short m c = λ t h.
    let r = c.in-Some.ensures.longer t h in
    if_none _ (short_more _ _ _ (c.in_err-rest.ensures.short r.rest r.rest_stands) (omega (arith, r.smaller)))

pub returns-clause-grown : goal.returns-clause-grown
returns-clause-grown m c = λ t h.
    let r = c.in-Some.ensures.longer t h in
    grows_on _ _ _ _ _ _ (c.in_ok-rest.ensures.grown r.rest r.rest_stands) (pushed_grows _ _ _ _ c.two.ensures.pushed) (omega (arith, r.smaller))

pub returns-clause-short : goal.returns-clause-short
returns-clause-short m c = λ t h.
    let r = c.in-Some.ensures.longer t h in
    pushed_after _ _ _ _ _ _ _ (c.in_ok-rest.ensures.grown r.rest r.rest_stands) c.two.ensures.pushed (omega (arith, r.smaller))

pub returns-clause-standing : goal.returns-clause-standing
returns-clause-standing m c = λ t h.
    let r = c.in-Some.ensures.longer t h in
    let q = c.in-Some-longer.ensures.longer r.rest r.rest_stands in
    two_there _ 13 (λ a b. Term-F.Cat a b) r.first (joined (front (chain r.rest))) _ _ (record { form_is = refl; own_is = refl; children_are = refl }) (record { no_tuple = refl; no_remainder = refl })
    (more_before c.args.cells.now.0 t _ r (goes_on_longer c.args.cells.now.0 r.rest _ q))
    (c.two.ensures.node r.first (joined (front (chain r.rest))) (c.in_ok-rest.ensures.keeps r.first _ r.first_stands) (c.in_ok-rest.ensures.standing r.rest r.rest_stands))

pub returns-in_default-clause-grown : goal.returns-in_default-clause-grown
returns-in_default-clause-grown m c = λ t h. grows_more _ _ _ _ (pushed_grows _ _ _ _ c.leaf.ensures.pushed) (omega (arith, more_nodes t))

pub returns-in_default-clause-short : goal.returns-in_default-clause-short
returns-in_default-clause-short m c = λ t h. if_none_then c.leaf.result (λ s. short_more _ _ _ s (omega (arith, more_nodes t))) (pushed_short _ _ _ _ c.leaf.ensures.pushed)
