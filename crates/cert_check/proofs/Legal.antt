-- A sequent with a legal certificate is valid: each step's sequent is, where the sequents that the step gives are.
use Rattle.std.proofs.Common.{◌≡◌, ◌∙◌, sym, ap, refl, ℕ, zero, suc, ◌+◌, Bool, true, false, not, ◌||◌, List, [], ◌∷◌, ◌++◌, length, Option, Some, None, slice_get, ⊎_elim}
use Rattle.std.specs.Prelude.{◌==◌, if◌then◌else◌}
use Rattle.std.proofs.lemmas.Bool.{and_parts, or_cases}
use Rattle.std.proofs.lemmas.Option.{same_Some}
use Rattle.std.specs.List.{AllByRecursion, list_all}
use Rattle.math_terms.specs.declared.term.Term.{Term}
use Rattle.math_terms.specs.declared.term.Term.TheOpen.{Term-F}
use Rattle.math_terms.specs.declared.term.Term.TheViews.{out-Term}
use Rattle.math_terms.specs.declared.term.Term.TheFolds.{map-Term, fold_out-Term}
use Rattle.math_terms.specs.Values.{Val, truth}
use Rattle.math_terms.specs.Heads.{same_term}
use Rattle.math_terms.specs.Meaning.{Valuation, value_step}
use Rattle.math_terms.specs.Descriptors.{Interpretation, holds, starts_in, value}
use Rattle.math_terms.specs.Laws.{EqualityIsSameness, SameTermsAreEqual}
use Rattle.num_theory.specs.Laws.{LinearTestsAreSound}
use Rattle.vc_sequents.specs.declared.sequent.Sequent.{Sequent}
use Rattle.vc_sequents.specs.Splitting.{IsValidSequent, sorts_of, split_at}
use Rattle.vc_sequents.specs.Laws.{SplitsKeepValidity}
use Rattle.cert_form.specs.declared.cert.Step.{Step}
use Rattle.cert_form.specs.declared.cert.Step.TheVariants as step
use Rattle.cert_check.specs.declared.verdict.Verdict.{Verdict}
use Rattle.cert_check.specs.declared.verdict.Verdict.TheVariants.{Legal}
use Rattle.cert_check.specs.Legality.{clash, false_form, gives, hypothesis, identity_form, is_false, is_identity, is_negation_of, is_true, linear_step, negation_form, next, of_length, passes, small_split, true_form, verdict_from, when}
use Rattle.cert_check.specs.Laws.{LegalIsValid}

-- the hypothesis that a step names is among those that are all true
listed : {A : Type 0} (p : A → Bool) (xs : List A) (k : ℕ) (x : A) → slice_get xs k ≡ Some x → list_all p xs ≡ true → p x ≡ true
listed p [] k x e h = cc
listed p (y ∷ ys) zero x e h = ap p (sym (same_Some y x e)) ∙ (and_parts (p y) (list_all p ys) h).0
listed p (y ∷ ys) (suc k) x e h = listed p ys k x e (and_parts (p y) (list_all p ys) h).1

-- a test that some formula passes
passing : (test : Term → Bool) (o : Option Term) → passes test o ≡ true → (f : Term) × (o ≡ Some f) × (test f ≡ true)
passing test None h = cc
passing test (Some f) h = (f, refl, h)

clashing : (o p : Option Term) → clash o p ≡ true → (f : Term) × (g : Term) × (o ≡ Some f) × (p ≡ Some g) × (is_negation_of f g ≡ true)
clashing None p h = cc
clashing (Some f) p h = let t = passing (is_negation_of f) p h in (f, t.0, refl, t.1, t.2)

allowed : (b : Bool) (ss : List Sequent) → when b ≡ Some ss → b ≡ true
allowed true ss e = refl
allowed false ss e = cc

-- a split that is allowed has so many sequents
counted : (b : Bool) (ts ss : List Sequent) → (if b then Some ts else None) ≡ Some ss → Some ts ≡ Some ss
counted true ts ss e = e
counted false ts ss e = cc

of_length_is : (n : ℕ) (o : Option (List Sequent)) (ss : List Sequent) → of_length n o ≡ Some ss → o ≡ Some ss
of_length_is n None ss e = cc
of_length_is n (Some ts) ss e = counted (length ts == n) ts ss e

small_is : (b : Bool) (o : Option (List Sequent)) (ss : List Sequent) → (if b then o else None) ≡ Some ss → o ≡ Some ss
small_is true o ss e = e
small_is false o ss e = cc

module _ (equality : EqualityIsSameness) (same_terms : SameTermsAreEqual) (I : Interpretation) (w : Valuation) where
  abbrev true_node : Term-F Term → Bool
  true_node x = truth (value_step (starts_in I) w (map-Term Term Val (value I w) x))

  holds_out : (t : Term) → holds I w t ≡ true_node (out-Term t)
  holds_out t = ap truth (fold_out-Term Val (value_step (starts_in I) w) t)

  true_form_holds : (x : Term-F Term) → true_form x ≡ true → true_node x ≡ true
  true_form_holds (Term-F.Truth b) h = h
  true_form_holds x h = cc

  false_form_fails : (x : Term-F Term) → false_form x ≡ true → true_node x ≡ false
  false_form_fails (Term-F.Truth true) h = cc
  false_form_fails (Term-F.Truth false) h = refl
  false_form_fails x h = cc

  identity_form_holds : (x : Term-F Term) → identity_form x ≡ true → true_node x ≡ true
  identity_form_holds (Term-F.Eq a b) h = (equality (value I w a) (value I w b)).1 (ap (value I w) ((same_terms a b).0 h))
  identity_form_holds x h = cc

  negation_form_is : (f : Term) (x : Term-F Term) → negation_form f x ≡ true → true_node x ≡ not (holds I w f)
  negation_form_is f (Term-F.Not a) h = ap (λ t. not (holds I w t)) (sym ((same_terms f a).0 h))
  negation_form_is f x h = cc

  same_holds : (f : Term) → (is_true f || is_identity f) ≡ true → holds I w f ≡ true
  same_holds f h =
      ⊎_elim (λ (t : is_true f ≡ true). holds_out f ∙ true_form_holds (out-Term f) t) (λ (t : is_identity f ≡ true). holds_out f ∙ identity_form_holds (out-Term f) t) (or_cases (is_true f) (is_identity f) h)

  named_holds : (s : Sequent) (k : ℕ) (f : Term) → hypothesis s k ≡ Some f → list_all (holds I w) s.hyps ≡ true → holds I w f ≡ true
  named_holds s zero f e h = cc
  named_holds s (suc k) f e h = listed (holds I w) s.hyps k f e h

  hyp_holds : (s : Sequent) (k : ℕ) → passes (same_term s.goal) (hypothesis s k) ≡ true → list_all (holds I w) s.hyps ≡ true → holds I w s.goal ≡ true
  hyp_holds s k t h =
      let found = passing (same_term s.goal) (hypothesis s k) t in
      ap (holds I w) ((same_terms s.goal found.0).0 found.2) ∙ named_holds s k found.0 found.1 h

  absurd_holds : (s : Sequent) (k : ℕ) → passes is_false (hypothesis s k) ≡ true → list_all (holds I w) s.hyps ≡ true → holds I w s.goal ≡ true
  absurd_holds s k t h =
      let found = passing is_false (hypothesis s k) t in
      let fails : holds I w found.0 ≡ false = holds_out found.0 ∙ false_form_fails (out-Term found.0) found.2 in
      let true_hyp : holds I w found.0 ≡ true = named_holds s k found.0 found.1 h in
      let clashes : false ≡ true = sym fails ∙ true_hyp in
      cc

  clash_holds : (s : Sequent) (k l : ℕ) → clash (hypothesis s k) (hypothesis s l) ≡ true → list_all (holds I w) s.hyps ≡ true → holds I w s.goal ≡ true
  clash_holds s k l t h =
      let found = clashing (hypothesis s k) (hypothesis s l) t in
      let first : holds I w found.0 ≡ true = named_holds s k found.0 found.2 h in
      let second : holds I w found.1 ≡ true = named_holds s l found.1 found.3 h in
      let turned : holds I w found.1 ≡ not (holds I w found.0) = holds_out found.1 ∙ negation_form_is found.0 (out-Term found.1) found.4 in
      let clashes : true ≡ false = sym second ∙ turned ∙ ap not first in
      cc

all_append : {A : Type 0} (P : A → Type 0) (xs ys : List A) → AllByRecursion P (xs ++ ys) → AllByRecursion P xs × AllByRecursion P ys
all_append P [] ys h = (tt, h)
all_append P (x ∷ xs) ys h = let rest = all_append P xs ys h.1 in ((h.0, rest.0), rest.1)

module _ (equality : EqualityIsSameness) (same_terms : SameTermsAreEqual) (linear : LinearTestsAreSound) (splits : SplitsKeepValidity) where
  -- A sequent is valid where the sequents are that a step gives.
  step_keeps : (st : Step) (s : Sequent) (ss : List Sequent) → gives st s ≡ Some ss → AllByRecursion IsValidSequent ss → IsValidSequent s
  step_keeps step.Same s ss e valid = λ I interprets w lies h. same_holds equality same_terms I w s.goal (allowed (is_true s.goal || is_identity s.goal) ss e)
  step_keeps (step.Hyp k) s ss e valid = λ I interprets w lies h. hyp_holds equality same_terms I w s k (allowed (passes (same_term s.goal) (hypothesis s k)) ss e) h
  step_keeps (step.Absurd k) s ss e valid = λ I interprets w lies h. absurd_holds equality same_terms I w s k (allowed (passes is_false (hypothesis s k)) ss e) h
  step_keeps (step.Clash k l) s ss e valid = λ I interprets w lies h. clash_holds equality same_terms I w s k l (allowed (clash (hypothesis s k) (hypothesis s l)) ss e) h
  step_keeps (step.Linear rows lines) s ss e valid = λ I interprets w lies h. linear (sorts_of s) s.hyps s.goal rows lines (allowed (linear_step s rows lines) ss e) I w h
  step_keeps (step.Split k n) s ss e valid = (splits s k ss (of_length_is n (split_at k s) ss (small_is (small_split s k) (of_length n (split_at k s)) ss e))).1 valid
  step_keeps (step.Subst k) s ss e valid = cc
  step_keeps (step.Rewrite formula position rule with sides) s ss e valid = cc

  next_legal : (n : ℕ) (o : Option (List Sequent)) (go : List Sequent → Verdict) → next n o go ≡ Legal → (new : List Sequent) × (o ≡ Some new) × (go new ≡ Legal)
  next_legal n None go h = cc
  next_legal n (Some new) go h = (new, refl, h)

  -- Where the steps are legal for the sequents that still stand, all of these are valid.
  standing_valid : (steps : List Step) (n : ℕ) (ss : List Sequent) → verdict_from steps n ss ≡ Legal → AllByRecursion IsValidSequent ss
  standing_valid [] n [] h = tt
  standing_valid [] n (s ∷ ss) h = cc
  standing_valid (st ∷ sts) n [] h = tt
  standing_valid (st ∷ sts) n (s ∷ ss) h =
      let given = next_legal n (gives st s) (λ new. verdict_from sts (n + 1) (new ++ ss)) h in
      let parts = all_append IsValidSequent given.0 ss (standing_valid sts (n + 1) (given.0 ++ ss) given.2) in
      (step_keeps st s given.0 given.1 parts.0, parts.1)

  pub legal_is_valid : LegalIsValid
  legal_is_valid steps s h = (standing_valid steps 0 (s ∷ []) h).0
