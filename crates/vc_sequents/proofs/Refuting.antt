-- A sequent and the sequents of its split are refuted by the same valuations.
use Rattle.std.proofs.Common.{◌≡◌, ◌∙◌, sym, ap, refl, ℕ, zero, suc, Bool, true, not, ◌&&◌, List, [], ◌∷◌, map, Option, Some, None, slice_get, option_and_then, option_map, IsTrue}
use Rattle.std.specs.List.{list_all, list_any}
use Rattle.math_terms.specs.declared.descriptor.Sort.{Sort}
use Rattle.math_terms.specs.declared.term.Term.{Term}
use Rattle.math_terms.specs.Values.{is_number, is_truth}
use Rattle.math_terms.specs.Meaning.{Valuation}
use Rattle.math_terms.specs.Descriptors.{Interpretation, IsInterpretation, holds, value}
use Rattle.math_terms.specs.Sorts.{is_b, is_z}
use Rattle.math_terms.specs.Kinds.{kind, sort_of_desc}
use Rattle.math_terms.specs.Laws.{ValuesHaveKinds}
use Rattle.math_terms.specs.Validity.{lies_from}
use Rattle.vc_sequents.specs.declared.sequent.Sequent.{Sequent}
use Rattle.vc_sequents.specs.Splitting.{Cases, GoalCase, goal_cases, hypothesis_cases, in_place, sorts_of, split_at, with_case, with_goal_case}
use Rattle.vc_sequents.proofs.Booleans.{and_assoc, and-list_any, list_all_append, list_any-and, list_any_map, list_any_same}
use Rattle.vc_sequents.proofs.Truths.{GoalTells, Tells, b_from_test, goal_tells, hypothesis_tells, placed_hold, z_from_test}

map-map : {A B C : Type 0} (f : A → B) (g : B → C) (xs : List A) → map g (map f xs) ≡ map (λ x. g (f x)) xs
map-map f g [] = refl
map-map f g (x ∷ xs) = ap (λ ys. g (f x) ∷ ys) (map-map f g xs)

-- an interpretation and a valuation of which a sequent speaks
pub record Fits (s : Sequent) (I : Interpretation) (w : Valuation) : Type 0 where
  pub interprets : IsInterpretation s.params I
  pub lies : IsTrue (lies_from I w 1 (map (λ v. v.1) s.vars))

-- all hypotheses are true, and the goal is not
abbrev pub refuted : Interpretation → Valuation → Sequent → Bool
refuted I w s = list_all (holds I w) s.hyps && not (holds I w s.goal)

module _ (kinds : ValuesHaveKinds) (s : Sequent) (I : Interpretation) (w : Valuation) (fits : Fits s I w) where
  sorts_are : map sort_of_desc (map (λ v. v.1) s.vars) ≡ sorts_of s
  sorts_are = map-map (λ v. v.1) sort_of_desc s.vars

  numbers : (t : Term) → is_z (kind (sorts_of s) t) ≡ true → is_number (value I w t) ≡ true
  numbers t h =
      (kinds s.params I fits.interprets w (map (λ v. v.1) s.vars) fits.lies t).0
      (ap (λ (vars : List Sort). kind vars t) sorts_are ∙ z_from_test (kind (sorts_of s) t) h)

  truths : (t : Term) → is_b (kind (sorts_of s) t) ≡ true → is_truth (value I w t) ≡ true
  truths t h =
      (kinds s.params I fits.interprets w (map (λ v. v.1) s.vars) fits.lies t).1
      (ap (λ (vars : List Sort). kind vars t) sorts_are ∙ b_from_test (kind (sorts_of s) t) h)

  from_cases : (k : ℕ) (f : Term) (c : Cases) (ss : List Sequent) → slice_get s.hyps k ≡ Some f → Tells I w (holds I w f) c → option_map (map (with_case s k)) c ≡ Some ss → refuted I w s ≡ list_any (refuted I w) ss
  from_cases k f None ss at t e = cc
  from_cases k f (Some cs) ss at t e =
      let made : map (with_case s k) cs ≡ ss = cc in
      ap (λ c. c && not (holds I w s.goal)) (placed_hold I w k s.hyps f cs at t)
      ∙ list_any-and (λ c. list_all (holds I w) (in_place k c s.hyps)) (not (holds I w s.goal)) cs
      ∙ list_any_map (refuted I w) (with_case s k) cs
      ∙ ap (list_any (refuted I w)) made

  from_hypothesis : (k : ℕ) (o : Option Term) (ss : List Sequent) → slice_get s.hyps k ≡ o → option_and_then (λ f. option_map (map (with_case s k)) (hypothesis_cases (sorts_of s) f)) o ≡ Some ss → refuted I w s ≡ list_any (refuted I w) ss
  from_hypothesis k None ss at e = cc
  from_hypothesis k (Some f) ss at e = from_cases k f (hypothesis_cases (sorts_of s) f) ss at (hypothesis_tells I w (sorts_of s) numbers truths f) e

  goal_case_refuted : (c : GoalCase) → (list_all (holds I w) s.hyps && (list_all (holds I w) c.0 && not (holds I w c.1))) ≡ refuted I w (with_goal_case s c)
  goal_case_refuted c =
      sym (and_assoc (list_all (holds I w) s.hyps) (list_all (holds I w) c.0) (not (holds I w c.1)))
      ∙ ap (λ t. t && not (holds I w c.1)) (sym (list_all_append (holds I w) s.hyps c.0))

  from_goal_cases : (c : Option (List GoalCase)) (ss : List Sequent) → GoalTells I w (not (holds I w s.goal)) c → option_map (map (with_goal_case s)) c ≡ Some ss → refuted I w s ≡ list_any (refuted I w) ss
  from_goal_cases None ss t e = cc
  from_goal_cases (Some cs) ss t e =
      let made : map (with_goal_case s) cs ≡ ss = cc in
      ap (λ c. list_all (holds I w) s.hyps && c) t
      ∙ and-list_any (λ (c : GoalCase). list_all (holds I w) c.0 && not (holds I w c.1)) (list_all (holds I w) s.hyps) cs
      ∙ list_any_same (λ (c : GoalCase). list_all (holds I w) s.hyps && (list_all (holds I w) c.0 && not (holds I w c.1))) (λ c. refuted I w (with_goal_case s c)) cs goal_case_refuted
      ∙ list_any_map (refuted I w) (with_goal_case s) cs
      ∙ ap (list_any (refuted I w)) made

  -- A sequent is refuted where one of the sequents is that one of its formulas gives.
  pub split_refuted : (k : ℕ) (ss : List Sequent) → split_at k s ≡ Some ss → refuted I w s ≡ list_any (refuted I w) ss
  split_refuted zero ss e = from_goal_cases (goal_cases (sorts_of s) s.goal) ss (goal_tells I w (sorts_of s) numbers truths s.goal) e
  split_refuted (suc k) ss e = from_hypothesis k (slice_get s.hyps k) ss refl e
