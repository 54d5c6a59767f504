use Rattle.std.proofs.Common.{◌≡◌, ◌∙◌, ap, map, take, drop, ◌++◌, length, arith}
use Rattle.std.proofs.lemmas.Grind.{common_steps}
use Rattle.num_theory.specs.Linear.{scaled, made}
use Rattle.num_theory.proofs.forms.times.Goals as goal

pub returns : goal.returns
returns c =
    let new = c.scale.new.products in
    let old = c.args.f.products.items in
    let whole : take c.args.f.products.len (new ++ drop (length new) old) ≡ new = grind (arith, common_steps) in
    c.made.ensures ∙ (λ i. made c.args.f.is_narrow ((whole ∙ c.scale.ensures ∙ ap (map (scaled c.args.by)) c.deref_mut.ensures.value) i) (c.times.ensures i))
