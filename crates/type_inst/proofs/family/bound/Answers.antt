use Rattle.std.proofs.Common.{◌≡◌, ◌∙◌, ap, subst, IfOk, List, ℕ}
use Rattle.std.specs.Option.{option_map}
use Rattle.math_terms.specs.declared.descriptor.Desc.{Desc}
use Rattle.math_terms.specs.declared.term.Term.{Term}
use Rattle.math_terms.specs.Filling.{filled}
use Rattle.type_inst.specs.declared.assertion.Meaning.{Meaning}
use Rattle.type_inst.specs.declared.types.FormalArg.{FormalArg}
use Rattle.type_inst.specs.Assertions.{assertion, names_in}
use Rattle.type_inst.specs.Descriptors as spec
use Rattle.type_inst.proofs.family.bound.Goals as goal

pub returns : goal.returns
returns c =
    let f = c.args.f.now in
    let ds = c.args.descs.now in
    let made : List Meaning → List (List ℕ × ℕ) → List Term → Desc → Desc =
    λ ms ts ns d. spec.with_clauses d (option_map (λ e. filled ns ds (assertion (names_in ms ts) e)) f.family.constraint) (filled ns ds (assertion (names_in ms ts) f.family.initial)) in
    let own = c.in_ok-context.ensures in
    let listed = c.as_slice.result.now in
    let model : c.in_ok-model.model ≡ spec.model (spec.types_from 0 listed) ds f.family.model.parts =
    c.in_ok-model.ensures
    ∙ (λ i. spec.model (c.as_slice-3.ensures i) ds (c.as_slice-2.ensures i))
    ∙ ap (λ ts. spec.model ts ds f.family.model.parts) own.types in
    let of : List (List ℕ × FormalArg) → Desc =
    λ fs. made (spec.meanings f.family fs) (spec.types_from 0 fs) (spec.given_numbers fs) (spec.model (spec.types_from 0 fs) ds f.family.model.parts) in
    subst (λ e. IfOk c.constrained.result (λ d. d ≡ e)) ((λ i. made (own.meanings i) (own.types i) (own.numbers i) (model i)) ∙ ap of c.as_slice.ensures) c.constrained.ensures
