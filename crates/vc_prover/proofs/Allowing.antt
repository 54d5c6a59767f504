-- The steps by which the search closes a sequent, and those by which it splits one, are allowed.
use Rattle.std.proofs.Common.{◌≡◌, ◌∙◌, sym, ap, refl, subst, ℕ, zero, suc, ◌+◌, Bool, true, ◌||◌, List, [], ◌∷◌, length, Option, Some, None, slice_get, ⊎_elim, arith}
use Rattle.std.specs.Prelude.{◌==◌}
use Rattle.std.proofs.lemmas.Bool.{cases_Bool, cond-true, cond-false, eq-eqb}
use Rattle.std.proofs.lemmas.Option.{cond_some, same_Some}
use Rattle.math_terms.specs.declared.term.Term.{Term}
use Rattle.math_terms.specs.Heads.{same_term}
use Rattle.vc_sequents.specs.declared.sequent.Sequent.{Sequent}
use Rattle.vc_sequents.specs.Splitting.{split_at}
use Rattle.cert_form.specs.declared.cert.Step.{Step}
use Rattle.cert_form.specs.declared.cert.Step.TheVariants as step
use Rattle.cert_check.specs.Legality.{clash, gives, hypothesis, is_false, is_identity, is_negation_of, is_true, of_length, passes, small_split, when}
use Rattle.vc_prover.specs.Search.{by_absurd, by_clash, by_hypothesis, by_linear, by_same, clash_from, closing, first_from, mapped, or_else, split_from, splitting}

-- what comes of either of two
pub from_either : {A : Type 0} (P : Type 0) (o p : Option A) (x : A) → (o ≡ Some x → P) → (p ≡ Some x → P) → or_else o p ≡ Some x → P
from_either P None p x f g e = g e
from_either P (Some y) p x f g e = f e

pub mapped_some : {A B : Type 0} (f : A → B) (o : Option A) (y : B) → mapped f o ≡ Some y → (x : A) × (o ≡ Some x) × (f x ≡ y)
mapped_some f None y e = cc
mapped_some f (Some x) y e = (x, refl, same_Some (f x) y e)

pub first_passes : (k : ℕ) (test : Term → Bool) (fs : List Term) (j : ℕ) → first_from k test fs ≡ Some j → (i : ℕ) × (j ≡ k + i) × (passes test (slice_get fs i) ≡ true)
first_passes k test [] j e = cc
first_passes k test (f ∷ fs) j e =
    ⊎_elim
    (λ here. (0, sym (same_Some k j (sym (cond-true (test f) (Some k) (first_from (k + 1) test fs) here) ∙ e)) ∙ omega arith, here))
    (λ not_so.
    let rest = first_passes (k + 1) test fs j (sym (cond-false (test f) (Some k) (first_from (k + 1) test fs) not_so) ∙ e) in
    (suc rest.0, omega (arith, rest.1), rest.2))
    (cases_Bool (test f))

passing : (test : Term → Bool) (o : Option Term) → passes test o ≡ true → (f : Term) × (o ≡ Some f) × (test f ≡ true)
passing test None h = cc
passing test (Some f) h = (f, refl, h)

-- the two hypotheses of a clash
record IsClash (all gs : List Term) (l : ℕ) (x : Step) : Type 0 where
  first : ℕ
  second : ℕ
  is : x ≡ step.Clash (1 + first) (l + second)
  clashes : clash (slice_get all first) (slice_get gs second) ≡ true

clash_here : (l : ℕ) (all gs : List Term) (g : Term) (x : Step) → mapped (λ k. step.Clash k l) (first_from 1 (λ f. is_negation_of f g) all) ≡ Some x → IsClash all (g ∷ gs) l x
clash_here l all gs g x h =
    let named = mapped_some (λ k. step.Clash k l) (first_from 1 (λ f. is_negation_of f g) all) x h in
    let at = first_passes 1 (λ f. is_negation_of f g) all named.0 named.1 in
    let f = passing (λ f. is_negation_of f g) (slice_get all at.0) at.2 in
    let same : l + 0 ≡ l = omega arith in
    record {
      first = at.0;
      second = 0;
      is = sym named.2 ∙ (λ i. step.Clash (at.1 i) (sym same i));
      clashes = ap (λ o. clash o (Some g)) f.1 ∙ f.2;
    }

clash_later : (l : ℕ) (all gs : List Term) (g : Term) (x : Step) → IsClash all gs (l + 1) x → IsClash all (g ∷ gs) l x
clash_later l all gs g x rest =
    let same : (l + 1) + rest.second ≡ l + suc rest.second = omega arith in
    record { first = rest.first; second = suc rest.second; is = rest.is ∙ ap (λ m. step.Clash (1 + rest.first) m) same; clashes = rest.clashes }

clash_is : (l : ℕ) (all gs : List Term) (x : Step) → clash_from l all gs ≡ Some x → IsClash all gs l x
clash_is l all [] x e = cc
clash_is l all (g ∷ gs) x e =
    from_either (IsClash all (g ∷ gs) l x) (mapped (λ k. step.Clash k l) (first_from 1 (λ f. is_negation_of f g) all)) (clash_from (l + 1) all gs) x
    (clash_here l all gs g x) (λ h. clash_later l all gs g x (clash_is (l + 1) all gs x h)) e

module _ (s : Sequent) where
  -- a step that closes is allowed
  Closes : Step → Type 0
  Closes x = gives x s ≡ Some []

  closes_same : (x : Step) → by_same s ≡ Some x → Closes x
  unfolding Closes
  closes_same x e =
      let is = cond_some (is_true s.goal || is_identity s.goal) step.Same x e in
      subst (λ y. gives y s ≡ Some []) is.1 (ap when is.0)

  next_hypothesis : (i : ℕ) → hypothesis s (1 + i) ≡ slice_get s.hyps i
  next_hypothesis i = let e : 1 + i ≡ suc i = omega arith in ap (hypothesis s) e

  named : (test : Term → Bool) (k : ℕ) → first_from 1 test s.hyps ≡ Some k → passes test (hypothesis s k) ≡ true
  named test k e =
      let at = first_passes 1 test s.hyps k e in
      ap (λ j. passes test (hypothesis s j)) at.1 ∙ (ap (passes test) (next_hypothesis at.0) ∙ at.2)

  closes_hypothesis : (x : Step) → by_hypothesis s ≡ Some x → Closes x
  unfolding Closes
  closes_hypothesis x e =
      let is = mapped_some (λ k. step.Hyp k) (first_from 1 (same_term s.goal) s.hyps) x e in
      subst (λ y. gives y s ≡ Some []) is.2 (ap when (named (same_term s.goal) is.0 is.1))

  closes_absurd : (x : Step) → by_absurd s ≡ Some x → Closes x
  unfolding Closes
  closes_absurd x e =
      let is = mapped_some (λ k. step.Absurd k) (first_from 1 is_false s.hyps) x e in
      subst (λ y. gives y s ≡ Some []) is.2 (ap when (named is_false is.0 is.1))

  closes_clash : (x : Step) → by_clash s ≡ Some x → Closes x
  unfolding Closes
  closes_clash x e =
      let is = clash_is 1 s.hyps s.hyps x e in
      subst (λ y. gives y s ≡ Some []) (sym is.is)
      (ap when ((λ i. clash (next_hypothesis is.first i) (next_hypothesis is.second i)) ∙ is.clashes))

  pub closing_gives : ((x : Step) → by_linear s ≡ Some x → gives x s ≡ Some []) → (x : Step) → closing s ≡ Some x → gives x s ≡ Some []
  unfolding Closes
  closing_gives linear x e =
      from_either (Closes x) (by_same s) (or_else (by_hypothesis s) (or_else (by_absurd s) (or_else (by_clash s) (by_linear s)))) x (closes_same x)
      (λ f. from_either (Closes x) (by_hypothesis s) (or_else (by_absurd s) (or_else (by_clash s) (by_linear s))) x (closes_hypothesis x)
      (λ g. from_either (Closes x) (by_absurd s) (or_else (by_clash s) (by_linear s)) x (closes_absurd x)
      (λ h. from_either (Closes x) (by_clash s) (by_linear s) x (closes_clash x) (linear x) h) g) f) e

  pub split_is : (k n : ℕ) (c : ℕ × List Sequent) → split_from k n s ≡ Some c → split_at c.0 s ≡ Some c.1
  split_is k zero c e =
      let is = mapped_some (λ ss. (0, ss)) (split_at 0 s) c e in
      subst (λ (d : ℕ × List Sequent). split_at d.0 s ≡ Some d.1) is.2 is.1
  split_is k (suc n) c e =
      from_either (split_at c.0 s ≡ Some c.1) (mapped (λ ss. (k, ss)) (split_at k s)) (split_from (k + 1) n s) c
      (λ h. let is = mapped_some (λ ss. (k, ss)) (split_at k s) c h in subst (λ (d : ℕ × List Sequent). split_at d.0 s ≡ Some d.1) is.2 is.1)
      (λ h. split_is (k + 1) n c h) e

  pub splitting_gives : (c : ℕ × List Sequent) → splitting s ≡ Some c → small_split s c.0 ≡ true → gives (step.Split c.0 (length c.1)) s ≡ Some c.1
  splitting_gives c e small =
      cond-true (small_split s c.0) (of_length (length c.1) (split_at c.0 s)) None small
      ∙ (ap (of_length (length c.1)) (split_is 1 (length s.hyps) c e) ∙ cond-true (length c.1 == length c.1) (Some c.1) None (eq-eqb (length c.1) (length c.1) refl))
