use Rattle.std.proofs.Common.{◌∙◌, ap}
use Rattle.num_theory.specs.Linear.{add_product}
use Rattle.num_theory.proofs.Adding.{add_products_push}
use Rattle.num_theory.proofs.forms.add_products.Goals as goal

pub loop-coefficient-preserved : goal.loop-coefficient-preserved
loop-coefficient-preserved c =
    let e = add_products_push c.args.products.now.items c.loop-coefficient.yielded (c.in-Some.coefficient, c.in-Some.atom) in
    rw e (c.in_ok-add_product.ensures ∙ ap (add_product (c.in-Some.coefficient, c.in-Some.atom)) c.loop-coefficient.invariant)
