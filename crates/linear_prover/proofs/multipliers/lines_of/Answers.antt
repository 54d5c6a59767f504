use Rattle.std.proofs.Common.{◌≡◌, ◌∙◌, ◌<◌, ◌+◌, ◌^◌, sym, ap, subst, ℕ, List, Bool, map, All, arith}
use Rattle.std.proofs.lemmas.Result.{IfOk-weaker}
use Rattle.math_terms.specs.declared.name.Line.{Line}
use Rattle.linear_prover.specs.Elimination.{lines_of, needed_by_last}
use Rattle.linear_prover.specs.working.Eliminating.{ArePlaces, flagged, line_by}
use Rattle.linear_prover.proofs.Placing.{places_small, lines_same}
use Rattle.linear_prover.proofs.multipliers.lines_of.Goals as goal

pub lines_by-requires-clause-small : goal.lines_by-requires-clause-small
lines_by-requires-clause-small c =
    let are : ArePlaces c.in_ok-flags.flags.items c.in_ok-places.places.items = subst (λ fs. ArePlaces fs c.in_ok-places.places.items) c.as_slice.ensures.value c.in_ok-places.ensures in
    subst (λ (ps : List ℕ). All (λ place. c.args.n + place + 1 < 2 ^ 32) ps) (sym c.as_slice-3.ensures.value)
    (places_small c.args.n c.in_ok-flags.flags.items c.in_ok-places.places.items (omega (arith, c.in_ok-flags.ensures.same_length)) are)

pub returns : goal.returns
returns c =
    let n = c.args.n in
    let flags = c.in_ok-flags.flags.items in
    let places = c.in_ok-places.places.items in
    let made = c.args.made.now in
    let are : ArePlaces flags places = subst (λ fs. ArePlaces fs places) c.as_slice.ensures.value c.in_ok-places.ensures in
    let same = lines_same n flags made places c.in_ok-flags.ensures.same_length c.in_ok-flags.ensures.closed are in
    IfOk-weaker c.lines_by.result _ (λ (lines : List Line). lines ≡ lines_of n (needed_by_last n made))
    (λ lines is. is ∙ (ap (λ (ps : List ℕ). map (λ d. line_by n ps d.1) (flagged n c.as_slice-2.result.now made)) c.as_slice-3.ensures.value
    ∙ (ap (λ (fs : List Bool). map (λ d. line_by n places d.1) (flagged n fs made)) c.as_slice-2.ensures.value
    ∙ (same ∙ ap (lines_of n) c.in_ok-flags.ensures.needed)))) c.lines_by.ensures
