use Rattle.std.proofs.Common.{◌∙◌, sym, ap, ◌+◌, ◌<◌, [], ◌∷◌, ◌++◌, drop, length, arith}
use Rattle.type_inst.specs.Descriptors.{bound_after, known_from}
use Rattle.type_inst.proofs.Listed.{drop_here}
use Rattle.type_inst.proofs.family.known_descs.Goals as goal

pub loop-f-preserved : goal.loop-f-preserved
loop-f-preserved c =
    let fs = c.args.families.now in
    let i = c.loop-f.f-index in
    let within : i < length fs = omega (arith, c.loop-f-test.true) in
    c.loop-f.invariant
    ∙ ap (known_from fs c.loop-f.known) (drop_here fs i c.f-item.result within c.f-item.is)
    ∙ ap (λ k. known_from fs k (drop (i + 1) fs)) (sym (c.in_ok-push.ensures.ok ∙ ap (λ d. c.loop-f.known ++ (d ∷ [])) (c.in_ok-next.ensures ∙ ap (λ k. bound_after fs k c.f-item.result) c.as_slice.ensures)))
