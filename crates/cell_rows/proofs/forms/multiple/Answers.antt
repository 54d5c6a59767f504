use Rattle.std.proofs.Common.{◌≡◌, ◌∙◌, ap, subst, ◌&&◌}
use Rattle.num_theory.specs.Linear.{made, times}
use Rattle.cell_rows.specs.Forms.{FormStands}
use Rattle.cell_rows.proofs.forms.multiple.Goals as goal

pub returns-clause-form : goal.returns-clause-form
returns-clause-form c = λ cells a b m e n h.
    let p : FormStands cells (times c.args.f.constant b) m c.times-product.result c.times-product.new.marks = c.times-product.ensures.form cells b m h in
    let narrow : c.both-is_narrow.result ≡ (a.is_narrow && b.is_narrow) = c.both-is_narrow.ensures ∙ (λ j. n j && h.narrow_is j) in
    let constant : c.times-product.result.constant ≡ (times a.constant b).constant = p.constant_is ∙ ap (λ z. (times z b).constant) e in
    subst (λ x. FormStands cells x m c.made.result c.times-product.new.marks) (λ i. made (narrow i) (times (e i) b).products (constant i)) (c.made.ensures.made cells (times c.args.f.constant b).products m p.products_stand p.few)
