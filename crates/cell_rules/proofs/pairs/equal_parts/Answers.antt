use Rattle.std.proofs.Common.{◌∙◌, ap, refl, sym, subst, length, Some, arith}
use Rattle.math_terms.specs.declared.term.Term.TheOpen.{Term-F}
use Rattle.str_theory.specs.Forms.{eq}
use Rattle.cell_rules.specs.Pairing.{FormulaStands}
use Rattle.cell_rules.proofs.Kept.{grows_on, if_err_then, pushed_grows, short_after, two_there}
use Rattle.cell_rules.proofs.Paired.{list_kept, parts_heads}
use Rattle.cell_rules.proofs.pairs.equal_parts.Goals as goal

pub returns-in-Some-two-clause-exact : goal.returns-in-Some-two-clause-exact
returns-in-Some-two-clause-exact c = λ t h.
    let law = c.parts_last.ensures in
    let q = c.in-Some.ensures t h in
    let a = c.in-Heads.ensures q.0 q.1 q.2.0 q.3.0 q.2.1 q.3.1 in
    let grown = pushed_grows _ _ _ _ c.two.ensures.pushed in
    let first = two_there _ 18 (λ a b. Term-F.Eq a b) a.first a.second (eq a.first a.second) (Some c.in-Some-two.first) (record { form_is = refl; own_is = refl; children_are = refl }) (record { no_tuple = refl; no_remainder = refl }) refl
    (c.in-Some-two.ensures.node a.first a.second a.first_stands a.second_stands) in
    subst (λ g. FormulaStands c.equal_onto.new.cells.0 g c.equal_onto.result) (sym (q.4 ∙ parts_heads c.args.cells.now.0 c.in-Some.lists.0 q.0 q.1 c.in-Heads.heads a))
    (c.equal_onto.ensures.exact (eq a.first a.second) a.firsts a.seconds c.in-Some.lists.0 a.right_limit first
    (list_kept law _ _ _ grown a.firsts _ _ a.left_stands) (list_kept law _ _ _ grown a.seconds _ _ a.right_stands))

pub returns-in-Some-two-clause-grown : goal.returns-in-Some-two-clause-grown
returns-in-Some-two-clause-grown c = λ t h.
    let law = c.parts_last.ensures in
    let q = c.in-Some.ensures t h in
    let a = c.in-Heads.ensures q.0 q.1 q.2.0 q.3.0 q.2.1 q.3.1 in
    let grown = pushed_grows _ _ _ _ c.two.ensures.pushed in
    let rest = c.equal_onto.ensures.grown a.firsts a.seconds c.in-Some.lists.0 a.right_limit (list_kept law _ _ _ grown a.firsts _ _ a.left_stands) (list_kept law _ _ _ grown a.seconds _ _ a.right_stands) in
    grows_on _ _ _ _ _ _ grown rest (omega (arith, q.5, ap length a.left_is))

pub returns-in-Some-two-clause-short : goal.returns-in-Some-two-clause-short
returns-in-Some-two-clause-short c = λ t h.
    let law = c.parts_last.ensures in
    let q = c.in-Some.ensures t h in
    let a = c.in-Heads.ensures q.0 q.1 q.2.0 q.3.0 q.2.1 q.3.1 in
    let grown = pushed_grows _ _ _ _ c.two.ensures.pushed in
    if_err_then c.equal_onto.result (λ short. short_after _ _ _ _ _ grown short (omega (arith, q.5, ap length a.left_is)))
    (c.equal_onto.ensures.short a.firsts a.seconds c.in-Some.lists.0 a.right_limit (list_kept law _ _ _ grown a.firsts _ _ a.left_stands) (list_kept law _ _ _ grown a.seconds _ _ a.right_stands))
