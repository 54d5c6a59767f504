-- How far the tests of formulas, of pairs and of numbers have come.
use Rattle.std.proofs.Common.{◌≡◌, ◌∙◌, sym, ap, refl, ℕ, zero, suc, ◌+◌, ◌<◌, ◌≤◌, Bool, true, false, List, [], ◌∷◌, length, drop, get_or, Option, Some, None, drop-cons, add-one, arith}
use Rattle.std.specs.Prelude.{if◌then◌else◌}
use Rattle.std.proofs.lemmas.Bool.{cond-true, cond-false}
use Rattle.math_terms.specs.declared.term.Term.{Term}
use Rattle.cert_form.specs.declared.cert.Step.TheVariants as step
use Rattle.cert_check.specs.Legality.{is_negation_of}
use Rattle.vc_prover.specs.Search.{clash_from, first_from, mapped, or_else}

-- the tests so far failed
abbrev pub Reached : (Term → Bool) → List Term → ℕ → Type 0
Reached test fs at = first_from 1 test fs ≡ first_from (at + 1) test (drop at fs)

drop_at : {A : Type 0} (xs : List A) (at : ℕ) (d : A) → at < length xs → drop at xs ≡ get_or xs at d ∷ drop (at + 1) xs
drop_at xs at d h = rw (add-one) (drop-cons xs at d h)

module _ (test : Term → Bool) (fs : List Term) (at : ℕ) (d : Term) (within : at < length fs) (reached : Reached test fs at) where
  opened : first_from 1 test fs ≡ (if test (get_or fs at d) then Some (at + 1) else first_from ((at + 1) + 1) test (drop (at + 1) fs))
  opened = reached ∙ ap (first_from (at + 1) test) (drop_at fs at d within)

  pub first_here : test (get_or fs at d) ≡ true → first_from 1 test fs ≡ Some (at + 1)
  first_here is = opened ∙ cond-true (test (get_or fs at d)) (Some (at + 1)) (first_from ((at + 1) + 1) test (drop (at + 1) fs)) is

  pub first_later : test (get_or fs at d) ≡ false → Reached test fs (at + 1)
  first_later is = opened ∙ cond-false (test (get_or fs at d)) (Some (at + 1)) (first_from ((at + 1) + 1) test (drop (at + 1) fs)) is

-- no number from a place on
drop_all : {A : Type 0} (xs : List A) (at : ℕ) → length xs ≤ at → drop at xs ≡ []
drop_all [] zero h = refl
drop_all [] (suc at) h = refl
drop_all (x ∷ xs) zero h = absurd (omega arith)
drop_all (x ∷ xs) (suc at) h = drop_all xs at (omega arith)

pub first_none : (test : Term → Bool) (fs : List Term) (at : ℕ) → length fs ≤ at → Reached test fs at → first_from 1 test fs ≡ None
first_none test fs at h reached = reached ∙ ap (first_from (at + 1) test) (drop_all fs at h)

module _ (all gs : List Term) (at : ℕ) (g : Term) (within : at < length gs) (is : g ≡ get_or gs at g) (reached : clash_from 1 all gs ≡ clash_from (at + 1) all (drop at gs)) where
  clash_opened : clash_from 1 all gs ≡ or_else (mapped (λ k. step.Clash k (at + 1)) (first_from 1 (λ f. is_negation_of f g) all)) (clash_from ((at + 1) + 1) all (drop (at + 1) gs))
  clash_opened =
      let next : drop at gs ≡ g ∷ drop (at + 1) gs = drop_at gs at g within ∙ ap (λ h. h ∷ drop (at + 1) gs) (sym is) in
      reached ∙ ap (clash_from (at + 1) all) next

  pub clash_here : (o : Option ℕ) (k : ℕ) → o ≡ first_from 1 (λ f. is_negation_of f g) all → o ≡ Some k → clash_from 1 all gs ≡ Some (step.Clash k (at + 1))
  clash_here o k tested found =
      clash_opened ∙ ap (λ p. or_else (mapped (λ k. step.Clash k (at + 1)) p) (clash_from ((at + 1) + 1) all (drop (at + 1) gs))) (sym tested ∙ found)

  pub clash_later : (o : Option ℕ) → o ≡ first_from 1 (λ f. is_negation_of f g) all → o ≡ None → clash_from 1 all gs ≡ clash_from ((at + 1) + 1) all (drop (at + 1) gs)
  clash_later o tested none =
      clash_opened ∙ ap (λ p. or_else (mapped (λ k. step.Clash k (at + 1)) p) (clash_from ((at + 1) + 1) all (drop (at + 1) gs))) (sym tested ∙ none)
