use Rattle.std.proofs.Common.{◌≡◌, ◌∙◌, sym, ap, subst, ◌++◌, map, take, drop, arith}
use Rattle.std.proofs.lemmas.Grind.{common_steps}
use Rattle.num_theory.specs.Linear.{made, scaled}
use Rattle.num_theory.specs.Number.{product}
use Rattle.cell_rows.specs.Forms.{FormStands, RawStand}
use Rattle.cell_rows.proofs.Marks.{all_scaled}
use Rattle.cell_rows.proofs.forms.times.Goals as goal

pub returns-clause-form : goal.returns-clause-form
returns-clause-form c = λ cells a m h.
    let by = c.args.by in
    let new = c.scale.new.marks in
    let old = c.args.marks.now in
    let whole : take c.args.f.count (new ++ drop c.args.f.count old) ≡ new = grind (arith, common_steps, c.scale.auto.marks, c.requires) in
    let stand = subst (RawStand cells (map (scaled by) a.products)) (sym (whole ∙ c.scale.ensures)) (all_scaled cells by a.products (take c.args.f.count old) h.products_stand) in
    let number : c.times.result ≡ product by a.constant = c.times.ensures ∙ ap (product by) h.constant_is in
    subst (λ x. FormStands cells x m c.made.result (new ++ drop c.args.f.count old)) (λ i. made (h.narrow_is i) (map (scaled by) a.products) (number i)) (c.made.ensures.made cells (map (scaled by) a.products) m stand h.few)
