use Rattle.std.proofs.Common.{ap, arith, refl, subst, sym}
use Rattle.math_terms.specs.declared.term.Term.TheOpen.{Term-F}
use Rattle.term_cells.specs.Growing.{StandsThere}
use Rattle.str_theory.specs.Chains.{chain, joined}
use Rattle.cell_rules.proofs.Chained.{few_rest, rest_rest}
use Rattle.cell_rules.proofs.Costs.{more_nodes}
use Rattle.cell_rules.proofs.Kept.{grows_more, if_none_then, node_there, pushed_grows, pushed_short, short_more}
use Rattle.cell_rules.proofs.spine.put_rest.Goals as goal

pub returns-in-Some-clause-grown : goal.returns-in-Some-clause-grown
returns-in-Some-clause-grown c = λ t h.
    let r = c.in-Some.ensures.longer t h in
    grows_more _ _ _ _ (c.put_chain.ensures.grown r.rest r.rest_stands) (omega (arith, r.smaller))

pub returns-in-Some-clause-short : goal.returns-in-Some-clause-short
returns-in-Some-clause-short c = λ t h.
    let r = c.in-Some.ensures.longer t h in
    if_none_then c.put_chain.result (λ s. short_more _ _ _ s (omega (arith, r.smaller))) (c.put_chain.ensures.short r.rest r.rest_stands)

pub returns-in-Some-clause-standing : goal.returns-in-Some-clause-standing
returns-in-Some-clause-standing c = λ t h.
    let r = c.in-Some.ensures.longer t h in
    subst (λ ts. StandsThere c.put_chain.new.cells.0 (joined ts) c.put_chain.result) (sym (rest_rest c.args.cells.now.0 t _ r)) (c.put_chain.ensures.standing r.rest r.rest_stands)

pub returns-in-None-clause-standing : goal.returns-in-None-clause-standing
returns-in-None-clause-standing c = λ t h.
    subst (λ u. StandsThere c.leaf.new.self.0 u c.leaf.result) (sym (ap joined (few_rest (chain t) (c.in-None.ensures.longer t h))))
    (node_there _ 11 _ _ _ Term-F.Empty (record { form_is = refl; own_is = refl; children_are = refl }) (record { no_tuple = refl; no_remainder = refl }) c.leaf.ensures.node)

pub returns-in-None-clause-grown : goal.returns-in-None-clause-grown
returns-in-None-clause-grown c = λ t h. grows_more _ _ _ _ (pushed_grows _ _ _ _ c.leaf.ensures.pushed) (omega (arith, more_nodes t))

pub returns-in-None-clause-short : goal.returns-in-None-clause-short
returns-in-None-clause-short c = λ t h. if_none_then c.leaf.result (λ s. short_more _ _ _ s (omega (arith, more_nodes t))) (pushed_short _ _ _ _ c.leaf.ensures.pushed)
