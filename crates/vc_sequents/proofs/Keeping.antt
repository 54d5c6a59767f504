-- Splits keep validity.
use Rattle.std.proofs.Common.{◌≡◌, ◌∙◌, sym, refl, subst, ℕ, zero, suc, ◌+◌, ◌↔◌, Bool, true, false, not, ◌&&◌, List, [], ◌∷◌, length, map, Option, Some, None, option_and_then, option_map, slice_get, IsTrue}
use Rattle.std.proofs.lemmas.Bool.{or_parts, or_from}
use Rattle.std.specs.List.{AllByRecursion, list_all, list_any}
use Rattle.math_terms.specs.declared.term.Term.{Term}
use Rattle.math_terms.specs.Meaning.{Valuation}
use Rattle.math_terms.specs.Descriptors.{Interpretation, IsInterpretation, holds}
use Rattle.math_terms.specs.Laws.{ValuesHaveKinds}
use Rattle.math_terms.specs.Validity.{lies_from}
use Rattle.vc_sequents.specs.declared.sequent.Sequent.{Sequent}
use Rattle.vc_sequents.specs.Splitting.{Cases, GoalCase, IsValidSequent, goal_cases, hypothesis_cases, or_next, sorts_of, split_at, split_from, split_hypothesis, split_of, with_case, with_goal_case}
use Rattle.vc_sequents.specs.Laws.{SplitsKeepValidity}
use Rattle.vc_sequents.proofs.Refuting.{Fits, refuted, split_refuted}

-- a sequent with the same variables
record Alike (s t : Sequent) : Type 0 where
  params : t.params ≡ s.params
  vars : t.vars ≡ s.vars

fits_back : (s t : Sequent) (I : Interpretation) (w : Valuation) → Alike s t → Fits t I w → Fits s I w
fits_back s t I w like f = record {
  interprets = subst (λ n. IsInterpretation n I) like.params f.interprets;
  lies = subst (λ vs. IsTrue (lies_from I w 1 (map (λ v. v.1) vs))) like.vars f.lies;
}

fits_on : (s t : Sequent) (I : Interpretation) (w : Valuation) → Alike s t → Fits s I w → Fits t I w
fits_on s t I w like f = record {
  interprets = subst (λ n. IsInterpretation n I) (sym like.params) f.interprets;
  lies = subst (λ vs. IsTrue (lies_from I w 1 (map (λ v. v.1) vs))) (sym like.vars) f.lies;
}

-- no valuation of which it speaks refutes a sequent
IsUnrefuted : Sequent → Type 0
IsUnrefuted s = (I : Interpretation) (w : Valuation) → Fits s I w → refuted I w s ≡ false

not_refuted : (hyps goal : Bool) → (hyps ≡ true → goal ≡ true) → (hyps && not goal) ≡ false
not_refuted true true h = refl
not_refuted true false h = sym (h refl)
not_refuted false goal h = refl

holds_unrefuted : (hyps goal : Bool) → (hyps && not goal) ≡ false → hyps ≡ true → goal ≡ true
holds_unrefuted true true e h = refl
holds_unrefuted true false e h = sym e
holds_unrefuted false goal e h = cc

unrefuted_from_valid : (s : Sequent) → IsValidSequent s → IsUnrefuted s
unfolding IsUnrefuted
unrefuted_from_valid s valid I w f = not_refuted (list_all (holds I w) s.hyps) (holds I w s.goal) (valid I f.interprets w f.lies)

valid_from_unrefuted : (s : Sequent) → IsUnrefuted s → IsValidSequent s
unfolding IsUnrefuted
valid_from_unrefuted s h I interprets w lies true_hyps =
    holds_unrefuted (list_all (holds I w) s.hyps) (holds I w s.goal) (h I w (record { interprets = interprets; lies = lies })) true_hyps

module _ (s : Sequent) where
  all_valid : (ss : List Sequent) → AllByRecursion (Alike s) ss → ((I : Interpretation) (w : Valuation) → Fits s I w → list_any (refuted I w) ss ≡ false) → AllByRecursion IsValidSequent ss
  unfolding IsUnrefuted
  all_valid [] like h = tt
  all_valid (t ∷ ts) like h = (
    valid_from_unrefuted t (λ I w f. (or_parts (refuted I w t) (list_any (refuted I w) ts) (h I w (fits_back s t I w like.0 f))).0),
    all_valid ts like.1 (λ I w f. (or_parts (refuted I w t) (list_any (refuted I w) ts) (h I w f)).1),
  )

  none_refuted : (ss : List Sequent) → AllByRecursion (Alike s) ss → AllByRecursion IsValidSequent ss → (I : Interpretation) (w : Valuation) → Fits s I w → list_any (refuted I w) ss ≡ false
  unfolding IsUnrefuted
  none_refuted [] like valid I w f = refl
  none_refuted (t ∷ ts) like valid I w f =
      or_from (refuted I w t) (list_any (refuted I w) ts) (unrefuted_from_valid t valid.0 I w (fits_on s t I w like.0 f)) (none_refuted ts like.1 valid.1 I w f)

  -- sequents of a split have the variables of the sequent
  cases_alike : (k : ℕ) (cs : List (List Term)) → AllByRecursion (Alike s) (map (with_case s k) cs)
  cases_alike k [] = tt
  cases_alike k (c ∷ cs) = (record { params = refl; vars = refl }, cases_alike k cs)

  goal_cases_alike : (cs : List GoalCase) → AllByRecursion (Alike s) (map (with_goal_case s) cs)
  goal_cases_alike [] = tt
  goal_cases_alike (c ∷ cs) = (record { params = refl; vars = refl }, goal_cases_alike cs)

  from_cases : (k : ℕ) (c : Cases) (ss : List Sequent) → option_map (map (with_case s k)) c ≡ Some ss → AllByRecursion (Alike s) ss
  from_cases k None ss e = cc
  from_cases k (Some cs) ss e =
      let made : map (with_case s k) cs ≡ ss = cc in
      let P : List Sequent → Type 0 = λ ts. AllByRecursion (Alike s) ts in
      subst P made (cases_alike k cs)

  from_hypothesis : (k : ℕ) (o : Option Term) (ss : List Sequent) → option_and_then (λ f. option_map (map (with_case s k)) (hypothesis_cases (sorts_of s) f)) o ≡ Some ss → AllByRecursion (Alike s) ss
  from_hypothesis k None ss e = cc
  from_hypothesis k (Some f) ss e = from_cases k (hypothesis_cases (sorts_of s) f) ss e

  from_goal_cases : (c : Option (List GoalCase)) (ss : List Sequent) → option_map (map (with_goal_case s)) c ≡ Some ss → AllByRecursion (Alike s) ss
  from_goal_cases None ss e = cc
  from_goal_cases (Some cs) ss e =
      let made : map (with_goal_case s) cs ≡ ss = cc in
      let P : List Sequent → Type 0 = λ ts. AllByRecursion (Alike s) ts in
      subst P made (goal_cases_alike cs)

  split_alike : (k : ℕ) (ss : List Sequent) → split_at k s ≡ Some ss → AllByRecursion (Alike s) ss
  split_alike zero ss e = from_goal_cases (goal_cases (sorts_of s) s.goal) ss e
  split_alike (suc k) ss e = from_hypothesis k (slice_get s.hyps k) ss e

pub splits_keep_validity : ValuesHaveKinds → SplitsKeepValidity
unfolding IsUnrefuted
splits_keep_validity kinds s k ss e = (
  λ valid. all_valid s ss (split_alike s k ss e) (λ I w f. sym (split_refuted kinds s I w f k ss e) ∙ unrefuted_from_valid s valid I w f),
  λ valid. valid_from_unrefuted s (λ I w f. split_refuted kinds s I w f k ss e ∙ none_refuted s ss (split_alike s k ss e) valid I w f),
)

-- one split is that of some formula
chosen : (s : Sequent) (k : ℕ) (next : Option (List Sequent)) (ss : List Sequent) (o : Option (List Sequent)) →
    split_hypothesis s k ≡ o → (next ≡ Some ss → (j : ℕ) × split_at j s ≡ Some ss) → or_next o next ≡ Some ss → (j : ℕ) × split_at j s ≡ Some ss
chosen s k next ss None at later e = later e
chosen s k next ss (Some ts) at later e = (suc k, at ∙ e)

pub split_from_at : (s : Sequent) (k n : ℕ) (ss : List Sequent) → split_from k n s ≡ Some ss → (j : ℕ) × split_at j s ≡ Some ss
split_from_at s k zero ss e = (0, e)
split_from_at s k (suc n) ss e = chosen s k (split_from (k + 1) n s) ss (split_hypothesis s k) refl (λ h. split_from_at s (k + 1) n ss h) e

pub split_keeps_validity : SplitsKeepValidity → (s : Sequent) (ss : List Sequent) → split_of s ≡ Some ss → IsValidSequent s ↔ AllByRecursion IsValidSequent ss
split_keeps_validity law s ss e =
    let at = split_from_at s 0 (length s.hyps) ss e in
    law s at.0 ss at.1
