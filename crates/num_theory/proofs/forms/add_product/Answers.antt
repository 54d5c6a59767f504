use Rattle.std.proofs.Common.{◌≡◌, position, Some, None}
use Rattle.num_theory.proofs.Adding.{has, add_product-at, add_product-none}
use Rattle.num_theory.proofs.forms.add_product.Goals as goal

pub returns-in-Some : goal.returns-in-Some
returns-in-Some c =
    let qs = c.args.products.now.items in
    let found : position (has c.args.atom) qs ≡ Some c.in-Some.k = cc in
    add_product-at (c.args.coefficient, c.args.atom) qs c.in-Some.k c.index.result.now c.index_mut.result.now c.plus.result found c.index.ensures c.index_mut.ensures.value c.plus.ensures

pub returns-in-None : goal.returns-in-None
returns-in-None c =
    let qs = c.args.products.now.items in
    let found : position (has c.args.atom) qs ≡ None = cc in
    rw (add_product-none (c.args.coefficient, c.args.atom) qs found) c.push.ensures
