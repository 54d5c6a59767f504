use Rattle.std.proofs.Common.{ap, sym, subst, length, arith}
use Rattle.str_theory.specs.Forms.{and, eq}
use Rattle.cell_rules.specs.Pairing.{FormulaStands}
use Rattle.cell_rules.proofs.Kept.{grows_on, if_err_then, short_after}
use Rattle.cell_rules.proofs.Paired.{list_kept, onto_ends, onto_heads, onto_uneven}
use Rattle.cell_rules.proofs.pairs.+equal_onto.Goals as goal

pub returns-in-Ends-clause-exact : goal.returns-in-Ends-clause-exact
returns-in-Ends-clause-exact s c = λ f ts us m n k h g. (f, onto_ends f ts us (c.in-Ends.ensures ts us m n h g), k)

pub returns-in-Uneven-clause-exact : goal.returns-in-Uneven-clause-exact
returns-in-Uneven-clause-exact s c = λ f ts us m n k h g. onto_uneven c.args.cells.now.0 c.args.left f ts us (c.in-Uneven.ensures ts us m n h g)

pub returns-in-Some-clause-exact : goal.returns-in-Some-clause-exact
returns-in-Some-clause-exact s c = λ f ts us m n k h g.
    let law = c.parts_last.ensures in
    let a = c.in-Heads.ensures ts us m n h g in
    let grown = c.in-Some.ensures.grown in
    let both = c.in-Some.ensures.standing f a.first a.second k a.first_stands a.second_stands in
    subst (λ x. FormulaStands c.equal_onto.new.cells.0 x c.equal_onto.result) (sym (onto_heads c.args.cells.now.0 c.args.left f ts us c.in-Heads.heads a))
    (c.equal_onto.ensures.exact (and f (eq a.first a.second)) a.firsts a.seconds c.args.left a.right_limit both
    (list_kept law _ _ _ grown a.firsts _ _ a.left_stands) (list_kept law _ _ _ grown a.seconds _ _ a.right_stands))

pub returns-in-Some-clause-grown : goal.returns-in-Some-clause-grown
returns-in-Some-clause-grown s c = λ ts us m n h g.
    let law = c.parts_last.ensures in
    let a = c.in-Heads.ensures ts us m n h g in
    let grown = c.in-Some.ensures.grown in
    let rest = c.equal_onto.ensures.grown a.firsts a.seconds c.args.left a.right_limit (list_kept law _ _ _ grown a.firsts _ _ a.left_stands) (list_kept law _ _ _ grown a.seconds _ _ a.right_stands) in
    grows_on _ _ _ _ _ _ grown rest (omega (arith, ap length a.left_is))

pub returns-in-Some-clause-short : goal.returns-in-Some-clause-short
returns-in-Some-clause-short s c = λ ts us m n h g.
    let law = c.parts_last.ensures in
    let a = c.in-Heads.ensures ts us m n h g in
    let grown = c.in-Some.ensures.grown in
    if_err_then c.equal_onto.result (λ short. short_after _ _ _ _ _ grown short (omega (arith, ap length a.left_is)))
    (c.equal_onto.ensures.short a.firsts a.seconds c.args.left a.right_limit (list_kept law _ _ _ grown a.firsts _ _ a.left_stands) (list_kept law _ _ _ grown a.seconds _ _ a.right_stands))
