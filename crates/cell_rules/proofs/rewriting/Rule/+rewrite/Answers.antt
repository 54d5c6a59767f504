use Rattle.std.proofs.Common.{◌∙◌, sym, ap, subst, arith, Ok}
use Rattle.std.specs.Prelude.{option_map}
use Rattle.std.proofs.lemmas.List.{nil_from_length}
use Rattle.math_terms.specs.declared.term.Term.TheViews.{out-Term}
use Rattle.term_cells.specs.KindShown.{sorts_of_vars}
use Rattle.str_theory.specs.Positions.{around, given_at}
use Rattle.str_theory.specs.Rules.{rule}
use Rattle.cell_rules.specs.Giving.{GivenStands}
use Rattle.cell_rules.proofs.Costs.{child_cost}
use Rattle.cell_rules.proofs.Kept.{grows_more, grows_on, if_err, if_err_then, short_after, short_more}
use Rattle.cell_rules.proofs.Stepping.{given_below}
use Rattle.cell_rules.proofs.rewriting.Rule.+rewrite.Goals as goal

pub returns-in_default-clause-exact : goal.returns-in_default-clause-exact
returns-in_default-clause-exact m c = λ f t fact h answered.
    let vars = sorts_of_vars c.args.vars.now in
    subst (λ ps. GivenStands c.at_node.new.cells.0 (given_at ps (rule vars f c.args.self.number) t) c.at_node.result) (sym (nil_from_length c.args.position.now c.in_default.ensures.cases))
    (c.at_node.ensures.exact f t fact h answered)

pub returns-in_err-inner-clause-grown : goal.returns-in_err-inner-clause-grown
returns-in_err-inner-clause-grown m c = λ t h.
    let u = c.in-Some-child.ensures t h in
    grows_more _ _ _ _ (c.in_err-inner.ensures.grown u.0 u.2) (omega (arith, child_cost t u.0 c.in-Some-checked_sub.k u.1))

pub returns-in_err-inner-clause-short : goal.returns-in_err-inner-clause-short
returns-in_err-inner-clause-short m c = λ t h.
    let u = c.in-Some-child.ensures t h in
    if_err _ (short_more _ _ _ (c.in_err-inner.ensures.short u.0 u.2) (omega (arith, child_cost t u.0 c.in-Some-checked_sub.k u.1)))

pub returns-in-Some-2-clause-exact : goal.returns-in-Some-2-clause-exact
returns-in-Some-2-clause-exact m c = λ f t fact h answered.
    let given = rule (sorts_of_vars c.args.vars.now) f c.args.self.number in
    let k = c.in-Some-checked_sub.k in
    let below = c.in-Some.below.now in
    let u = c.in-Some-child.ensures t h in
    let inner = subst (λ r. GivenStands c.rewrite.new.cells.0 (given_at below given u.0) (Ok r)) c.in-Some-2.is (c.in_ok-inner.ensures.exact f u.0 fact u.2 answered) in
    let step = given_below c.args.position.now c.in-Some.first.now below k given t u.0 c.in-Some.ensures.cases.0 c.in-Some-checked_sub.ensures.0 c.in-Some-checked_sub.ensures.1 u.1 in
    subst (λ g. GivenStands c.around.new.cells.0 g c.around.result) (sym (step ∙ ap (option_map (around k (out-Term t))) inner.1))
    (c.around.ensures.standing t u.0 inner.0 (c.in_ok-inner.ensures.keeps t c.args.p h) u.1 inner.2)

pub returns-in-Some-2-clause-grown : goal.returns-in-Some-2-clause-grown
returns-in-Some-2-clause-grown m c = λ t h.
    let u = c.in-Some-child.ensures t h in
    grows_on _ _ _ _ _ _ (c.in_ok-inner.ensures.grown u.0 u.2) c.around.ensures.grown (omega (arith, child_cost t u.0 c.in-Some-checked_sub.k u.1))

pub returns-in-Some-2-clause-short : goal.returns-in-Some-2-clause-short
returns-in-Some-2-clause-short m c = λ t h.
    let u = c.in-Some-child.ensures t h in
    let cost = child_cost t u.0 c.in-Some-checked_sub.k u.1 in
    if_err_then c.around.result
    (λ short. short_after _ _ _ _ _ (c.in_ok-inner.ensures.grown u.0 u.2) short (omega (arith, cost)))
    (c.around.ensures.short t u.0 (c.in_ok-inner.ensures.keeps t c.args.p h) u.1)

pub returns-in-None-clause-grown : goal.returns-in-None-clause-grown
returns-in-None-clause-grown m c = λ t h.
    let u = c.in-Some-child.ensures t h in
    grows_more _ _ _ _ (c.in_ok-inner.ensures.grown u.0 u.2) (omega (arith, child_cost t u.0 c.in-Some-checked_sub.k u.1))
