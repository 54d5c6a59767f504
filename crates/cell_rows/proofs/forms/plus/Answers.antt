use Rattle.std.proofs.Common.{◌≡◌, ◌∙◌, subst, ◌+◌, ◌≤◌, ◌&&◌, arith}
use Rattle.num_theory.specs.Linear.{made, add_products}
use Rattle.num_theory.specs.Number.{sum}
use Rattle.cell_rows.specs.Forms.{FormStands}
use Rattle.cell_rows.proofs.forms.plus.Goals as goal

pub returns-clause-form : goal.returns-clause-form
returns-clause-form c = λ a b m n h g.
    let cells = c.args.cells.now.0 in
    let few : c.add_products-count.result ≤ m + n = omega (arith, c.add_products-count.ensures.few, h.few, g.few) in
    let stand = c.add_products-count.ensures.added a.products b.products h.products_stand g.products_stand in
    let narrow : c.both-is_narrow.result ≡ (a.is_narrow && b.is_narrow) = c.both-is_narrow.ensures ∙ (λ j. h.narrow_is j && g.narrow_is j) in
    let constant : c.plus.result ≡ sum a.constant b.constant = c.plus.ensures ∙ (λ j. sum (h.constant_is j) (g.constant_is j)) in
    subst (λ x. FormStands cells x (m + n) c.made.result c.add_products-count.new.marks) (λ i. made (narrow i) (add_products a.products b.products) (constant i)) (c.made.ensures.made cells (add_products a.products b.products) (m + n) stand few)
