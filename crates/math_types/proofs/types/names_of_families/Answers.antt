use Rattle.std.proofs.Common.{◌∙◌, sym, ap, ◌+◌, ◌<◌, [], ◌∷◌, ◌++◌, drop, length, arith}
use Rattle.math_types.specs.Types.{names_from, names_of}
use Rattle.math_types.proofs.Lists.{drop_here}
use Rattle.math_types.proofs.types.names_of_families.Goals as goal

pub loop-f-preserved : goal.loop-f-preserved
loop-f-preserved c =
    let fs = c.args.families.now in
    let i = c.loop-f.f-index in
    let within : i < length fs = omega (arith, c.loop-f-test.true) in
    c.loop-f.invariant
    ∙ ap (names_from fs c.loop-f.known) (drop_here fs i c.f-item.result within c.f-item.is)
    ∙ ap (λ k. names_from fs k (drop (i + 1) fs)) (sym (c.in_ok-push.ensures.ok ∙ ap (λ d. c.loop-f.known ++ (d ∷ [])) (c.in_ok-names.ensures ∙ ap (λ k. names_of fs k c.f-item.result) c.as_slice.ensures)))
