use Rattle.std.proofs.Common.{◌≡◌, ◌⊎◌, ◌∙◌, sym, ap, refl, subst, ◌<◌, ◌≤◌, length, take, slice_get, List, Option, None, Some, Result, Ok, Err, MatchResult, arith}
use Rattle.std.specs.Option.{option_map_or}
use Rattle.std.proofs.lemmas.Bool.Decides.{nat_tests}
use Rattle.std.proofs.lemmas.Option.{slice_get_past, slice_get_read}
use Rattle.res_ast.specs.declared.facility.FacDecl.{FacDecl}
use Rattle.facility_bind.specs.declared.bound.Bound.{Bound}
use Rattle.facility_bind.specs.declared.error.ArgError.{ArgError}
use Rattle.facility_bind.specs.declared.error.ArgError.TheVariants.{NoMemory}
use Rattle.facility_bind.specs.Scopes.{scope}
use Rattle.facility_bind.specs.Bounds.{bound, bound_in, nothing}
use Rattle.facility_bind.proofs.binding.bind.Goals as goal

pub returns-in-Some : goal.returns-in-Some
returns-in-Some c =
    let table = c.args.table.now in
    let here = c.args.component.now in
    let n = c.args.facility in
    let all = c.declarations_of-declarations.result.now in
    let read = c.in-Some.ensures.lookup in
    let within : n < length all = grind (arith, nat_tests, read.0) in
    let found : slice_get all n ≡ Some c.in-Some.declaration.now = slice_get_read all (length all) n c.in-Some.declaration.now refl within read.1 in
    let of : List FacDecl → Option FacDecl → Result Bound ArgError = λ ds o. option_map_or (λ d. bound_in table (scope table here (take n ds)) d) o (Ok nothing) in
    let same : bound_in table (scope table here (take n all)) c.in-Some.declaration.now ≡ bound table here n =
    ap (of all) (sym found) ∙ ap (λ ds. of ds (slice_get ds n)) c.declarations_of-declarations.ensures in
    subst (λ x. MatchResult c.bind_behind.result (λ b. x ≡ Ok b) (λ e. (e ≡ NoMemory) ⊎ (x ≡ Err e))) same c.bind_behind.ensures

pub returns-in-None : goal.returns-in-None
returns-in-None c =
    let table = c.args.table.now in
    let here = c.args.component.now in
    let n = c.args.facility in
    let all = c.declarations_of-declarations.result.now in
    let past : length all ≤ n = c.in-None.ensures.lookup.3 in
    let of : List FacDecl → Option FacDecl → Result Bound ArgError = λ ds o. option_map_or (λ d. bound_in table (scope table here (take n ds)) d) o (Ok nothing) in
    let found : bound table here n ≡ of all None =
    sym (ap (λ ds. of ds (slice_get ds n)) c.declarations_of-declarations.ensures) ∙ ap (of all) (slice_get_past all n past) in
    let bare : Bound → Result Bound ArgError = λ b. Ok b in
    found ∙ ap bare (sym c.nothing.ensures)
