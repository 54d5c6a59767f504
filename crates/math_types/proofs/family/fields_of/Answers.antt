use Rattle.std.proofs.Common.{◌∙◌, sym, ap, ℕ, ◌<◌, List, [], ◌∷◌, ◌++◌, length, map, take, arith}
use Rattle.std.proofs.lemmas.List.{map_more}
use Rattle.math_terms.specs.declared.descriptor.Sort.{Sort}
use Rattle.res_ast.specs.declared.heading.PType.{PType}
use Rattle.math_types.specs.Components.{field}
use Rattle.math_types.proofs.family.fields_of.Goals as goal

pub loop-field-preserved : goal.loop-field-preserved
loop-field-preserved c =
    let f : List ℕ × PType → List ℕ × Sort = field c.args.scope.now in
    let fs = c.args.fields.now in
    let i = c.loop-field.field-index in
    let within : i < length fs = omega (arith, c.loop-field-test.true) in
    c.in_ok-push.ensures.ok
    ∙ ap (λ out. out ++ c.in_ok-field_of.field-0 ∷ []) c.loop-field.invariant
    ∙ ap (λ x. map f (take i fs) ++ x ∷ []) (c.in_ok-field_of.ensures ∙ ap f c.field-item.is)
    ∙ sym (map_more f fs i c.field-item.result within)
