-- Splitting ends: what a formula gives weighs less than the formula.
use Rattle.std.proofs.Common.{◌≡◌, sym, ap, refl, subst, ℕ, zero, suc, ◌+◌, ◌*◌, ◌<◌, ◌≤◌, true, false, List, [], ◌∷◌, length, map, Option, Some, None, slice_get, option_and_then, option_map, sum_by, arith}
use Rattle.std.proofs.lemmas.Bool.{cond_both}
use Rattle.std.proofs.lemmas.List.{length-map}
use Rattle.std.proofs.lemmas.List.Sums.{sum_by-append, sum_by-cons}
use Rattle.std.specs.List.{AllByRecursion}
use Rattle.math_terms.specs.declared.descriptor.Sort.{Sort}
use Rattle.math_terms.specs.declared.term.Term.{Term}
use Rattle.math_terms.specs.declared.term.Term.TheOpen.{Term-F}
use Rattle.math_terms.specs.declared.term.Term.TheViews.{roll-Term, out-Term}
use Rattle.math_terms.specs.declared.term.Term.TheFolds.{map-Term, fold-roll-Term, fold_out-Term}
use Rattle.vc_sequents.specs.declared.sequent.Sequent.{Sequent}
use Rattle.vc_sequents.specs.Ending.{size, weight, weight_step}
use Rattle.vc_sequents.specs.Splitting.{Cases, GoalCase, and as and_of, form_cases, form_goals, goal_cases, hypothesis_cases, implies as implies_of, in_place, less, less_eq, negation_cases, not as not_of, of_numbers, of_truths, one_case, one_goal, or as or_of, sorts_of, split_at, split_of, truth as truth_of, two_cases, two_goals, with_case, with_goal_case}
use Rattle.vc_sequents.proofs.Keeping.{split_from_at}

abbrev weight_of_node : Term-F Term → ℕ
weight_of_node x = weight_step (map-Term Term ℕ weight x)

weight_roll : (x : Term-F Term) → weight (roll-Term x) ≡ weight_of_node x
weight_roll x = fold-roll-Term ℕ weight_step x

weight_out : (t : Term) → weight t ≡ weight_of_node (out-Term t)
weight_out t = fold_out-Term ℕ weight_step t

weight_not : (a : Term) → weight (not_of a) ≡ 2 * weight a + 2
weight_not a = weight_roll (Term-F.Not a)

-- at most two cases, each of less than this weight
abbrev Lighter : ℕ → Cases → Type 0
Lighter n None = Unit {0}
Lighter n (Some cs) = AllByRecursion (λ fs. sum_by weight fs < n) cs × (length cs ≤ 2)

abbrev GoalLighter : ℕ → Option (List GoalCase) → Type 0
GoalLighter n None = Unit {0}
GoalLighter n (Some cs) = AllByRecursion (λ (c : GoalCase). sum_by weight c.0 + weight c.1 < n) cs × (length cs ≤ 2)

one_lighter : (n : ℕ) (f : Term) → weight f < n → Lighter n (one_case (f ∷ []))
one_lighter n f h = ((omega arith, tt), omega arith)

pair_lighter : (n : ℕ) (f g : Term) → weight f + weight g < n → Lighter n (one_case (f ∷ g ∷ []))
pair_lighter n f g h = ((omega arith, tt), omega arith)

either_lighter : (n : ℕ) (f g : Term) → weight f < n → weight g < n → Lighter n (two_cases (f ∷ []) (g ∷ []))
either_lighter n f g h k = ((omega arith, (omega arith, tt)), omega arith)

either_two_lighter : (n : ℕ) (f g h k : Term) → weight f + weight g < n → weight h + weight k < n → Lighter n (two_cases (f ∷ g ∷ []) (h ∷ k ∷ []))
either_two_lighter n f g h k p q = ((omega arith, (omega arith, tt)), omega arith)

one_goal_lighter : (n : ℕ) (f g : Term) → weight f + weight g < n → GoalLighter n (one_goal f g)
one_goal_lighter n f g h = ((omega arith, tt), omega arith)

two_goals_lighter : (n : ℕ) (f g : Term) → weight f < n → weight g < n → GoalLighter n (two_goals f g)
two_goals_lighter n f g h k = ((omega arith, (omega arith, tt)), omega arith)

module _ (vars : List Sort) where
  unequal_lighter : (a b : Term) → Lighter (2 * (2 * weight a + 2 * weight b + 5) + 2) (negation_cases vars (Term-F.Eq a b))
  unequal_lighter a b =
      let n : ℕ = 2 * (2 * weight a + 2 * weight b + 5) + 2 in
      cond_both (of_numbers vars a b) _ _ (Lighter n)
      (λ _. either_lighter n (less a b) (less b a) (omega (arith, weight_roll (Term-F.Less a b))) (omega (arith, weight_roll (Term-F.Less b a))))
      (λ _. cond_both (of_truths vars a b) _ _ (Lighter n)
      (λ _. either_two_lighter n a (not_of b) (not_of a) b (omega (arith, weight_not b)) (omega (arith, weight_not a)))
      (λ _. tt))

  negation_lighter : (x : Term-F Term) → Lighter (2 * weight_of_node x + 2) (negation_cases vars x)
  negation_lighter (Term-F.Truth true) = one_lighter 4 (truth_of false) (omega (arith, weight_roll (Term-F.Truth false)))
  negation_lighter (Term-F.Truth false) = one_lighter 4 (truth_of true) (omega (arith, weight_roll (Term-F.Truth true)))
  negation_lighter (Term-F.Not a) = one_lighter _ a (omega arith)
  negation_lighter (Term-F.And a b) =
      one_lighter _ (or_of (not_of a) (not_of b)) (omega (arith, weight_roll (Term-F.Or (not_of a) (not_of b)), weight_not a, weight_not b))
  negation_lighter (Term-F.Or a b) =
      one_lighter _ (and_of (not_of a) (not_of b)) (omega (arith, weight_roll (Term-F.And (not_of a) (not_of b)), weight_not a, weight_not b))
  negation_lighter (Term-F.Implies a b) = one_lighter _ (and_of a (not_of b)) (omega (arith, weight_roll (Term-F.And a (not_of b)), weight_not b))
  negation_lighter (Term-F.LessEq a b) = one_lighter 4 (less b a) (omega (arith, weight_roll (Term-F.Less b a)))
  negation_lighter (Term-F.Less a b) = one_lighter 4 (less_eq b a) (omega (arith, weight_roll (Term-F.LessEq b a)))
  negation_lighter (Term-F.Eq a b) = unequal_lighter a b
  negation_lighter x = tt

  equal_lighter : (a b : Term) → Lighter (2 * weight a + 2 * weight b + 5) (form_cases vars (Term-F.Eq a b))
  equal_lighter a b =
      let n : ℕ = 2 * weight a + 2 * weight b + 5 in
      cond_both (of_truths vars a b) _ _ (Lighter n)
      (λ _. either_two_lighter n a b (not_of a) (not_of b) (omega arith) (omega (arith, weight_not a, weight_not b)))
      (λ _. tt)

  form_lighter : (x : Term-F Term) → Lighter (weight_of_node x) (form_cases vars x)
  form_lighter (Term-F.Truth true) = ((omega arith, tt), omega arith)
  form_lighter (Term-F.And a b) = pair_lighter _ a b (omega arith)
  form_lighter (Term-F.Or a b) = either_lighter _ a b (omega arith) (omega arith)
  form_lighter (Term-F.Implies a b) = either_lighter _ (not_of a) b (omega (arith, weight_not a)) (omega arith)
  form_lighter (Term-F.Not a) = subst (λ n. Lighter (2 * n + 2) (negation_cases vars (out-Term a))) (sym (weight_out a)) (negation_lighter (out-Term a))
  form_lighter (Term-F.Eq a b) = equal_lighter a b
  form_lighter x = tt

  hypothesis_lighter : (f : Term) → Lighter (weight f) (hypothesis_cases vars f)
  hypothesis_lighter f = subst (λ n. Lighter n (hypothesis_cases vars f)) (sym (weight_out f)) (form_lighter (out-Term f))

  equation_lighter : (a b : Term) → GoalLighter (2 * weight a + 2 * weight b + 5) (form_goals vars (Term-F.Eq a b))
  equation_lighter a b =
      let n : ℕ = 2 * weight a + 2 * weight b + 5 in
      cond_both (of_numbers vars a b) _ _ (GoalLighter n)
      (λ _. two_goals_lighter n (less_eq a b) (less_eq b a) (omega (arith, weight_roll (Term-F.LessEq a b))) (omega (arith, weight_roll (Term-F.LessEq b a))))
      (λ _. cond_both (of_truths vars a b) _ _ (GoalLighter n)
      (λ _. two_goals_lighter n (implies_of a b) (implies_of b a) (omega (arith, weight_roll (Term-F.Implies a b))) (omega (arith, weight_roll (Term-F.Implies b a))))
      (λ _. tt))

  form_goals_lighter : (x : Term-F Term) → GoalLighter (weight_of_node x) (form_goals vars x)
  form_goals_lighter (Term-F.And a b) = two_goals_lighter _ a b (omega arith) (omega arith)
  form_goals_lighter (Term-F.Or a b) = one_goal_lighter _ (not_of a) b (omega (arith, weight_not a))
  form_goals_lighter (Term-F.Implies a b) = one_goal_lighter _ a b (omega arith)
  form_goals_lighter (Term-F.Not a) = one_goal_lighter _ a (truth_of false) (omega (arith, weight_roll (Term-F.Truth false)))
  form_goals_lighter (Term-F.Eq a b) = equation_lighter a b
  form_goals_lighter x = tt

  goal_lighter : (f : Term) → GoalLighter (weight f) (goal_cases vars f)
  goal_lighter f = subst (λ n. GoalLighter n (goal_cases vars f)) (sym (weight_out f)) (form_goals_lighter (out-Term f))

placed_weight : (k : ℕ) (hyps : List Term) (f : Term) (new : List Term) → slice_get hyps k ≡ Some f → sum_by weight (in_place k new hyps) + weight f ≡ sum_by weight hyps + sum_by weight new
placed_weight k [] f new at = cc
placed_weight zero (g ∷ gs) f new at =
    let same : g ≡ f = cc in
    omega (arith, ap weight same, sum_by-append weight new gs, sum_by-cons weight g gs)
placed_weight (suc k) (g ∷ gs) f new at =
    omega (arith, placed_weight k gs f new at, sum_by-cons weight g gs, sum_by-cons weight g (in_place k new gs))

-- at most two sequents, each of less weight
pub record AreSmaller (s : Sequent) (ss : List Sequent) : Type 0 where
  pub smaller : AllByRecursion (λ t. size t < size s) ss
  pub few : length ss ≤ 2

module _ (s : Sequent) where
  cases_smaller : (k : ℕ) (f : Term) (cs : List (List Term)) → slice_get s.hyps k ≡ Some f → AllByRecursion (λ fs. sum_by weight fs < weight f) cs → AllByRecursion (λ t. size t < size s) (map (with_case s k) cs)
  cases_smaller k f [] at h = tt
  cases_smaller k f (c ∷ cs) at h = (omega (arith, placed_weight k s.hyps f c at, h.0), cases_smaller k f cs at h.1)

  goal_cases_smaller : (cs : List GoalCase) → AllByRecursion (λ (c : GoalCase). sum_by weight c.0 + weight c.1 < weight s.goal) cs → AllByRecursion (λ t. size t < size s) (map (with_goal_case s) cs)
  goal_cases_smaller [] h = tt
  goal_cases_smaller (c ∷ cs) h = (omega (arith, sum_by-append weight s.hyps c.0, h.0), goal_cases_smaller cs h.1)

  from_cases : (k : ℕ) (f : Term) (c : Cases) (ss : List Sequent) → slice_get s.hyps k ≡ Some f → Lighter (weight f) c → option_map (map (with_case s k)) c ≡ Some ss → AreSmaller s ss
  from_cases k f None ss at h e = cc
  from_cases k f (Some cs) ss at h e =
      let made : map (with_case s k) cs ≡ ss = cc in
      subst (AreSmaller s) made (record { smaller = cases_smaller k f cs at h.0; few = omega (arith, length-map cs (with_case s k), h.1) })

  from_hypothesis : (k : ℕ) (o : Option Term) (ss : List Sequent) → slice_get s.hyps k ≡ o → option_and_then (λ f. option_map (map (with_case s k)) (hypothesis_cases (sorts_of s) f)) o ≡ Some ss → AreSmaller s ss
  from_hypothesis k None ss at e = cc
  from_hypothesis k (Some f) ss at e = from_cases k f (hypothesis_cases (sorts_of s) f) ss at (hypothesis_lighter (sorts_of s) f) e

  from_goal_cases : (c : Option (List GoalCase)) (ss : List Sequent) → GoalLighter (weight s.goal) c → option_map (map (with_goal_case s)) c ≡ Some ss → AreSmaller s ss
  from_goal_cases None ss h e = cc
  from_goal_cases (Some cs) ss h e =
      let made : map (with_goal_case s) cs ≡ ss = cc in
      subst (AreSmaller s) made (record { smaller = goal_cases_smaller cs h.0; few = omega (arith, length-map cs (with_goal_case s), h.1) })

  pub split_at_smaller : (k : ℕ) (ss : List Sequent) → split_at k s ≡ Some ss → AreSmaller s ss
  split_at_smaller zero ss e = from_goal_cases (goal_cases (sorts_of s) s.goal) ss (goal_lighter (sorts_of s) s.goal) e
  split_at_smaller (suc k) ss e = from_hypothesis k (slice_get s.hyps k) ss refl e

  pub split_smaller : (ss : List Sequent) → split_of s ≡ Some ss → AreSmaller s ss
  split_smaller ss e =
      let at = split_from_at s 0 (length s.hyps) ss e in
      split_at_smaller at.0 ss at.1
