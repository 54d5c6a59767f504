use Rattle.std.proofs.Common.{◌≡◌, ◌-◌, ◌+◌, ◌∙◌, sym, ap, subst, true, false, [], ◌∷◌, length, replicate, reverse, set, arith}
use Rattle.std.proofs.lemmas.List.{take_at, length-reverse}
use Rattle.linear_prover.specs.Elimination.{kept}
use Rattle.linear_prover.specs.working.Eliminating.{AreFlags, flagged}
use Rattle.linear_prover.proofs.Placing.{last_flag, needed_is}
use Rattle.linear_prover.proofs.multipliers.needed.Goals as goal

pub returns-clause-needed : goal.returns-clause-needed
returns-clause-needed c =
    let n = c.args.n in
    let made = c.args.made.now in
    let start : c.as_mut_slice.result.now ≡ set (replicate (length made) false) (length made - 1) true =
    c.as_mut_slice.ensures.value ∙ ap (λ fs. set fs (length made - 1) true) c.in_ok-flags.ensures in
    let last = subst (λ fs. AreFlags n fs ((n + (length made - 1)) ∷ [])) (sym start) (last_flag n (length made) c.requires.some) in
    let kept_now = c.mark_needed.ensures.needed ((n + (length made - 1)) ∷ []) last in
    let long : length (reverse made) ≡ length made = length-reverse made in
    let needed = needed_is n made (reverse made) (λ i. reverse made) (omega arith) in
    ap (λ fs. flagged n fs made) (take_at _ _ _ (c.mark_needed.auto.flags ∙ c.as_mut_slice.ensures.len)) ∙ (kept_now ∙ (ap (λ m. kept n (reverse made) ((n + (m - 1)) ∷ []) []) (sym long) ∙ sym needed))
