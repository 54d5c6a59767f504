use Rattle.std.proofs.Common.{◌≡◌, ◌∙◌, sym, ap, get_or, set, arith}
use Rattle.std.proofs.lemmas.List.Edits.{map_over_more}
use Rattle.num_theory.specs.Linear.{RawProduct, scaled}
use Rattle.num_theory.proofs.forms.scale.Goals as goal

pub loop-p-preserved : goal.loop-p-preserved
loop-p-preserved c =
    let before = c.loop-p.products in
    let i = c.loop-p.p-index in
    let p : RawProduct = c.p-item.result in
    let read : RawProduct = get_or before i p in
    let new : RawProduct = (c.times-p.result, read.1) in
    let written : new ≡ scaled c.args.by p = (λ k. (c.times-p.ensures k, read.1)) ∙ ap (scaled c.args.by) (sym c.p-item.is) in
    let step = map_over_more (scaled c.args.by) c.args.products.now before i p (omega arith) c.loop-p.invariant c.p-item.is in
    ap (set before i) written ∙ step
