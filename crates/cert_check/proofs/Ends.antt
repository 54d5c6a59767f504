-- What a walk over all steps says of a certificate.
use Rattle.std.proofs.Common.{◌≡◌, ◌∙◌, sym, refl, subst, ℕ, ◌<◌, ◌≤◌, List, [], ◌∷◌, length, drop, length-drop, Result, Ok, Err, arith}
use Rattle.vc_sequents.specs.declared.sequent.Sequent.{Sequent}
use Rattle.cert_form.specs.declared.cert.Step.{Step}
use Rattle.cert_check.specs.declared.verdict.Verdict.TheVariants as verdict
use Rattle.cert_check.specs.declared.walk.Stop.{Stop}
use Rattle.cert_check.specs.declared.walk.Stop.TheVariants.{Illegal}
use Rattle.cert_check.specs.Legality.{verdict_from, verdict_of}
use Rattle.cert_check.specs.working.Walking.{Walked}

left_over : (sts : List Step) (n : ℕ) → 0 < length sts → verdict_from sts n [] ≡ verdict.Illegal n
left_over [] n h = absurd (omega arith)
left_over (st ∷ sts) n h = refl

none_left : (sts : List Step) (n : ℕ) → length sts ≤ 0 → verdict_from sts n [] ≡ verdict.Legal
none_left [] n h = refl
none_left (st ∷ sts) n h = absurd (omega arith)

module _ (steps : List Step) (s : Sequent) (end : Result ℕ Stop) (walked : Walked steps 0 s end) where
  pub ends_early : (next : ℕ) → end ≡ Ok next → next < length steps → verdict.Illegal next ≡ verdict_of steps s
  ends_early next is few =
      let w = subst (λ (r : Result ℕ Stop). Walked steps 0 s r) is walked in
      sym (w [] ∙ left_over (drop next steps) next (omega (arith, length-drop next steps)))

  pub ends_well : (next : ℕ) → end ≡ Ok next → length steps ≤ next → verdict.Legal ≡ verdict_of steps s
  ends_well next is all =
      let w = subst (λ (r : Result ℕ Stop). Walked steps 0 s r) is walked in
      sym (w [] ∙ none_left (drop next steps) next (omega (arith, length-drop next steps)))

  pub ends_illegal : (k : ℕ) → end ≡ Err (Illegal k) → verdict.Illegal k ≡ verdict_of steps s
  ends_illegal k is =
      let w = subst (λ (r : Result ℕ Stop). Walked steps 0 s r) is walked in
      sym (w [])
