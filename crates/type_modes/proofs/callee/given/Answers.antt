use Rattle.std.proofs.Common.{IsTrue, ◌↔◌, get_or, ◌≡◌, ◌∙◌, ℕ, ◌<◌, ◌≤◌, Bool, true, false, List, length, min, Option, Some, arith, ap, sym, option_and_then}
use Rattle.std.proofs.lemmas.Bool.Decides.{same_from_decides}
use Rattle.std.proofs.lemmas.Slice.Eq.{bytes_eq-Decides}
use Rattle.std.specs.List.{find, zip}
use Rattle.std.specs.Str.{bytes_eq}
use Rattle.res_ast.specs.declared.facility.FacArg.{FacArg}
use Rattle.res_ast.specs.declared.heading.Formal.{Formal}
use Rattle.type_rules.specs.working.Seen.{seen_scope}
use Rattle.type_modes.specs.Signatures.{argument}
use Rattle.type_modes.proofs.Searches.{beside, beside_ended, beside_passed}
use Rattle.type_modes.proofs.callee.given.Goals as goal

abbrev named : List ℕ → Formal × FacArg → Bool
named name p = bytes_eq name p.0.name

named_so : (name other : List ℕ) (r : Bool) → (IsTrue r ↔ (name ≡ other)) → r ≡ bytes_eq name other
named_so name other r is = same_from_decides r (bytes_eq name other) is (bytes_eq-Decides name other)

pub returns-then-same : goal.returns-then-same
returns-then-same c =
    let formals = c.as_slice-formals.result.now in
    let args = c.as_slice-args.result.now in
    let name = c.args.name.now in
    let formal = c.index-formals-k.result in
    let given = λ (o : Option (Formal × FacArg)). option_and_then (λ p. argument c.args.scope.table.now (seen_scope c.args.scope) p.1) o in
    let first : c.loop-k.k < length formals = omega (arith, c.loop-k-test.true, c.min-count.ensures) in
    let second : c.loop-k.k < length args = omega (arith, c.loop-k-test.true, c.min-count.ensures) in
    let is : true ≡ bytes_eq name formal.name = sym c.if-same.true ∙ named_so name (get_or formals c.loop-k.k formal).name c.same.result c.same.ensures ∙ ap (λ (f : Formal). bytes_eq name f.name) (sym c.index-formals-k.is) in
    let found : find (named name) (zip formals args) ≡ Some (formal, c.index-args-k.result) =
    c.loop-k.invariant ∙ beside (named name) formals args c.loop-k.k formal c.index-args-k.result true first second c.index-formals-k.is c.index-args-k.is is in
    c.argument.ensures
    ∙ ap given (sym found)
    ∙ ap (λ xs. given (find (named name) (zip xs args))) c.as_slice-formals.ensures
    ∙ ap (λ ys. given (find (named name) (zip c.args.concept.now.formals ys))) c.as_slice-args.ensures

pub loop-k-preserved : goal.loop-k-preserved
loop-k-preserved c =
    let formals = c.as_slice-formals.result.now in
    let args = c.as_slice-args.result.now in
    let name = c.args.name.now in
    let formal = c.index-formals-k.result in
    let first : c.loop-k.k < length formals = omega (arith, c.loop-k-test.true, c.min-count.ensures) in
    let second : c.loop-k.k < length args = omega (arith, c.loop-k-test.true, c.min-count.ensures) in
    let is : false ≡ bytes_eq name formal.name = sym c.if-same.false ∙ named_so name (get_or formals c.loop-k.k formal).name c.same.result c.same.ensures ∙ ap (λ (f : Formal). bytes_eq name f.name) (sym c.index-formals-k.is) in
    c.loop-k.invariant ∙ beside_passed (named name) formals args c.loop-k.k formal first second c.index-formals-k.is (λ (y : FacArg). is)

pub returns : goal.returns
returns c =
    let formals = c.as_slice-formals.result.now in
    let args = c.as_slice-args.result.now in
    let name = c.args.name.now in
    let given = λ (o : Option (Formal × FacArg)). option_and_then (λ p. argument c.args.scope.table.now (seen_scope c.args.scope) p.1) o in
    let past : min (length formals) (length args) ≤ c.loop-k.k = omega (arith, c.loop-k-test.false, c.min-count.ensures) in
    ap given (sym (c.loop-k.invariant ∙ beside_ended (named name) formals args c.loop-k.k past))
    ∙ ap (λ xs. given (find (named name) (zip xs args))) c.as_slice-formals.ensures
    ∙ ap (λ ys. given (find (named name) (zip c.args.concept.now.formals ys))) c.as_slice-args.ensures
