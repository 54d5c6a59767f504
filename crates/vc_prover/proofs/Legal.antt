-- What a search finds is a legal certificate.
use Rattle.std.proofs.Common.{◌≡◌, ◌∙◌, sym, ap, refl, subst, inl, inr, ◌⊎◌, ℕ, zero, suc, ◌+◌, ltb, Bool, true, false, List, [], ◌∷◌, ◌++◌, length, Option, Some, None}
use Rattle.std.specs.Prelude.{if◌then◌else◌}
use Rattle.std.proofs.lemmas.Option.{same_Some}
use Rattle.vc_sequents.specs.declared.sequent.Sequent.{Sequent}
use Rattle.cert_form.specs.declared.cert.Step.{Step}
use Rattle.cert_form.specs.declared.cert.Step.TheVariants as step
use Rattle.cert_check.specs.declared.verdict.Verdict.TheVariants.{Legal}
use Rattle.cert_check.specs.Legality.{IsLegal, gives, next, small_split, verdict_from}
use Rattle.vc_prover.specs.Search.{IsFound, by_linear, closing, go_on, is_small_sequent, most_ends, splitting, steps_for, with_step}
use Rattle.vc_prover.proofs.Allowing.{closing_gives, splitting_gives}

stepped : (x : Step) (o : Option (List Step)) (a : List Step) → with_step x o ≡ Some a → (b : List Step) × (o ≡ Some b) × (x ∷ b ≡ a)
stepped x None a e = cc
stepped x (Some b) a e = (b, refl, same_Some (x ∷ b) a e)

when_parts : {A : Type 0} (b : Bool) (o : Option A) (a : A) → (if b then o else None) ≡ Some a → (b ≡ true) × (o ≡ Some a)
when_parts true o a e = (refl, e)
when_parts false o a e = cc

-- a step that is allowed, and the steps for what it gives
record Goes (s : Sequent) (closed : Option (List Step)) (opened : List Sequent → Option (List Step)) (a : List Step) : Type 0 where
  first : Step
  others : List Step
  is : first ∷ others ≡ a
  allowed : ((gives first s ≡ Some []) × (closed ≡ Some others)) ⊎ ((new : List Sequent) × (gives first s ≡ Some new) × (opened new ≡ Some others))

goes : (s : Sequent) (ends : ℕ) (closed : Option (List Step)) (opened : List Sequent → Option (List Step)) (a : List Step) → ((x : Step) → closing s ≡ Some x → gives x s ≡ Some []) →
    (c : Option Step) (split : Option (ℕ × List Sequent)) → closing s ≡ c → splitting s ≡ split → go_on s ends c split closed opened ≡ Some a → Goes s closed opened a
goes s ends closed opened a closes (Some x) split e f h =
    let few = when_parts (ltb ends most_ends) (with_step x closed) a h in
    let done = stepped x closed a few.1 in
    record { first = x; others = done.0; is = done.2; allowed = inl (closes x e, done.1) }
goes s ends closed opened a closes None None e f h = cc
goes s ends closed opened a closes None (Some c) e f h =
    let x : Step = step.Split c.0 (length c.1) in
    let small = when_parts (small_split s c.0) (with_step x (opened c.1)) a h in
    let done = stepped x (opened c.1) a small.1 in
    record { first = x; others = done.0; is = done.2; allowed = inr (c.1, splitting_gives s c f small.0, done.1) }

legal_first : (s : Sequent) (ss : List Sequent) (n : ℕ) (x : Step) (others : List Step) (new : List Sequent) → gives x s ≡ Some new → verdict_from others (n + 1) (new ++ ss) ≡ Legal →
    verdict_from (x ∷ others) n (s ∷ ss) ≡ Legal
legal_first s ss n x others new e h = ap (λ o. next n o (λ ts. verdict_from others (n + 1) (ts ++ ss))) e ∙ h

from_goes : (s : Sequent) (ss : List Sequent) (n : ℕ) (closed : Option (List Step)) (opened : List Sequent → Option (List Step)) (a : List Step) →
    ((b : List Step) → closed ≡ Some b → verdict_from b (n + 1) ss ≡ Legal) → ((new : List Sequent) (b : List Step) → opened new ≡ Some b → verdict_from b (n + 1) (new ++ ss) ≡ Legal) →
    Goes s closed opened a → verdict_from a n (s ∷ ss) ≡ Legal
from_goes s ss n closed opened a closes opens g =
    let P : List Step → Type 0 = λ xs. verdict_from xs n (s ∷ ss) ≡ Legal in
    subst P g.is (at g.allowed)
  where
    at : ((gives g.first s ≡ Some []) × (closed ≡ Some g.others)) ⊎ ((new : List Sequent) × (gives g.first s ≡ Some new) × (opened new ≡ Some g.others)) → verdict_from (g.first ∷ g.others) n (s ∷ ss) ≡ Legal
    at (inl c) = legal_first s ss n g.first g.others [] c.0 (closes g.others c.1)
    at (inr d) = legal_first s ss n g.first g.others d.0 d.1 (opens d.0 g.others d.2)

module _ (linear : (s : Sequent) (x : Step) → by_linear s ≡ Some x → gives x s ≡ Some []) where
  standing_legal : (fuel n ends : ℕ) (ss : List Sequent) (steps : List Step) → steps_for fuel ends ss ≡ Some steps → verdict_from steps n ss ≡ Legal
  standing_legal zero n ends ss steps e = cc
  standing_legal (suc fuel) n ends [] steps e = ap (λ xs. verdict_from xs n []) (sym (same_Some [] steps e))
  standing_legal (suc fuel) n ends (s ∷ ss) steps e =
      from_goes s ss n (steps_for fuel (ends + 1) ss) (λ new. steps_for fuel ends (new ++ ss)) steps
      (λ b h. standing_legal fuel (n + 1) (ends + 1) ss b h) (λ new b h. standing_legal fuel (n + 1) ends (new ++ ss) b h)
      (goes s ends (steps_for fuel (ends + 1) ss) (λ new. steps_for fuel ends (new ++ ss)) steps (closing_gives s (linear s)) (closing s) (splitting s) refl refl e)

  pub found_legal : (s : Sequent) (steps : List Step) → IsFound s steps → IsLegal steps s
  found_legal s steps found =
      let small = when_parts (is_small_sequent s) (steps_for found.0 0 (s ∷ [])) steps found.1 in
      standing_legal found.0 0 0 (s ∷ []) steps small.1
