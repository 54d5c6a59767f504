-- How a sequent is split: what its formulas give, and the sequents where nothing is left to be split.
use Rattle.std.specs.Prelude.{◌≡◌, ℕ, zero, suc, ◌+◌, Bool, true, false, ◌&&◌, List, [], ◌∷◌, ◌++◌, length, map, Option, Some, None, option_and_then, option_map, slice_get, if◌then◌else◌}
use Rattle.math_terms.specs.declared.descriptor.Sort.{Sort}
use Rattle.math_terms.specs.declared.term.Term.{Term}
use Rattle.math_terms.specs.declared.term.Term.TheOpen.{Term-F}
use Rattle.math_terms.specs.declared.term.Term.TheViews.{roll-Term, out-Term}
use Rattle.math_terms.specs.Sorts.{is_b, is_z}
use Rattle.math_terms.specs.Kinds.{kind, sort_of_desc}
use Rattle.math_terms.specs.Validity.{IsValid}
use Rattle.vc_sequents.specs.declared.sequent.Sequent.{Sequent}

abbrev pub not : Term → Term
not a = roll-Term (Term-F.Not a)

abbrev pub and : Term → Term → Term
and a b = roll-Term (Term-F.And a b)

abbrev pub or : Term → Term → Term
or a b = roll-Term (Term-F.Or a b)

abbrev pub implies : Term → Term → Term
implies a b = roll-Term (Term-F.Implies a b)

abbrev pub less : Term → Term → Term
less a b = roll-Term (Term-F.Less a b)

abbrev pub less_eq : Term → Term → Term
less_eq a b = roll-Term (Term-F.LessEq a b)

abbrev pub truth : Bool → Term
truth b = roll-Term (Term-F.Truth b)

-- the kinds of variables
abbrev pub sorts_of : Sequent → List Sort
sorts_of s = map (λ v. sort_of_desc v.1) s.vars

-- both sides of an equation are numbers, or truth values
abbrev pub of_numbers : List Sort → Term → Term → Bool
of_numbers vars a b = is_z (kind vars a) && is_z (kind vars b)

abbrev pub of_truths : List Sort → Term → Term → Bool
of_truths vars a b = is_b (kind vars a) && is_b (kind vars b)

-- What a hypothesis gives: for each new sequent the formulas that stand in its place.
abbrev pub Cases : Type 0
Cases = Option (List (List Term))

abbrev pub one_case : List Term → Cases
one_case fs = Some (fs ∷ [])

abbrev pub two_cases : List Term → List Term → Cases
two_cases fs gs = Some (fs ∷ gs ∷ [])

-- what the negation of a formula gives
abbrev pub negation_cases : List Sort → Term-F Term → Cases
negation_cases vars (Term-F.Truth true) = one_case (truth false ∷ [])
negation_cases vars (Term-F.Truth false) = one_case (truth true ∷ [])
negation_cases vars (Term-F.Not a) = one_case (a ∷ [])
negation_cases vars (Term-F.And a b) = one_case (or (not a) (not b) ∷ [])
negation_cases vars (Term-F.Or a b) = one_case (and (not a) (not b) ∷ [])
negation_cases vars (Term-F.Implies a b) = one_case (and a (not b) ∷ [])
negation_cases vars (Term-F.LessEq a b) = one_case (less b a ∷ [])
negation_cases vars (Term-F.Less a b) = one_case (less_eq b a ∷ [])
negation_cases vars (Term-F.Eq a b) =
    if of_numbers vars a b then two_cases (less a b ∷ []) (less b a ∷ [])
    else if of_truths vars a b then two_cases (a ∷ not b ∷ []) (not a ∷ b ∷ [])
    else None
negation_cases vars x = None

abbrev pub form_cases : List Sort → Term-F Term → Cases
form_cases vars (Term-F.Truth true) = one_case []
form_cases vars (Term-F.Truth false) = None
form_cases vars (Term-F.And a b) = one_case (a ∷ b ∷ [])
form_cases vars (Term-F.Or a b) = two_cases (a ∷ []) (b ∷ [])
form_cases vars (Term-F.Implies a b) = two_cases (not a ∷ []) (b ∷ [])
form_cases vars (Term-F.Not a) = negation_cases vars (out-Term a)
form_cases vars (Term-F.Eq a b) = if of_truths vars a b then two_cases (a ∷ b ∷ []) (not a ∷ not b ∷ []) else None
form_cases vars x = None

abbrev pub hypothesis_cases : List Sort → Term → Cases
hypothesis_cases vars f = form_cases vars (out-Term f)

-- What a goal gives: for each new sequent the hypotheses that come last, and the goal.
abbrev pub GoalCase : Type 0
GoalCase = List Term × Term

abbrev pub one_goal : Term → Term → Option (List GoalCase)
one_goal f goal = Some ((f ∷ [], goal) ∷ [])

abbrev pub two_goals : Term → Term → Option (List GoalCase)
two_goals a b = Some (([], a) ∷ ([], b) ∷ [])

abbrev pub form_goals : List Sort → Term-F Term → Option (List GoalCase)
form_goals vars (Term-F.And a b) = two_goals a b
form_goals vars (Term-F.Or a b) = one_goal (not a) b
form_goals vars (Term-F.Implies a b) = one_goal a b
form_goals vars (Term-F.Not a) = one_goal a (truth false)
form_goals vars (Term-F.Eq a b) =
    if of_numbers vars a b then two_goals (less_eq a b) (less_eq b a)
    else if of_truths vars a b then two_goals (implies a b) (implies b a)
    else None
form_goals vars x = None

abbrev pub goal_cases : List Sort → Term → Option (List GoalCase)
goal_cases vars f = form_goals vars (out-Term f)

-- a sequent with formulas in the place of the hypothesis at a place, counted from 0
abbrev pub in_place : ℕ → List Term → List Term → List Term
in_place k new [] = []
in_place zero new (f ∷ fs) = new ++ fs
in_place (suc k) new (f ∷ fs) = f ∷ in_place k new fs

abbrev pub with_case : Sequent → ℕ → List Term → Sequent
with_case s k new = record s { hyps = in_place k new s.hyps }

abbrev pub with_goal_case : Sequent → GoalCase → Sequent
with_goal_case s c = record s { hyps = s.hyps ++ c.0; goal = c.1 }

abbrev pub split_hypothesis : Sequent → ℕ → Option (List Sequent)
split_hypothesis s k = option_and_then (λ f. option_map (map (with_case s k)) (hypothesis_cases (sorts_of s) f)) (slice_get s.hyps k)

abbrev pub split_goal : Sequent → Option (List Sequent)
split_goal s = option_map (map (with_goal_case s)) (goal_cases (sorts_of s) s.goal)

-- The sequents that formula k gives: a hypothesis counted from 1, or with 0 the goal.
abbrev pub split_at : ℕ → Sequent → Option (List Sequent)
split_at zero s = split_goal s
split_at (suc k) s = split_hypothesis s k

abbrev pub or_next : Option (List Sequent) → Option (List Sequent) → Option (List Sequent)
or_next None next = next
or_next (Some ss) next = Some ss

-- the first of so many hypotheses from place k on that gives something, or else the goal
abbrev pub split_from : ℕ → ℕ → Sequent → Option (List Sequent)
split_from k zero s = split_goal s
split_from k (suc n) s = or_next (split_hypothesis s k) (split_from (k + 1) n s)

-- One split: of the lowest hypothesis that gives something, and last of the goal.
abbrev pub split_of : Sequent → Option (List Sequent)
split_of s = split_from 0 (length s.hyps) s

-- a sequent's leaves: itself where nothing is to be split, and else those of the sequents of its split, in order
mutual
  pub data Leaves : Sequent → List Sequent → Type 0 where
    leaf : (s : Sequent) → split_of s ≡ None → Leaves s (s ∷ [])
    branch : (s : Sequent) (ss ls : List Sequent) → split_of s ≡ Some ss → LeavesOfAll ss ls → Leaves s ls

  pub data LeavesOfAll : List Sequent → List Sequent → Type 0 where
    none : LeavesOfAll [] []
    more : (s : Sequent) (ss ls ms : List Sequent) → Leaves s ls → LeavesOfAll ss ms → LeavesOfAll (s ∷ ss) (ls ++ ms)

-- A sequent is valid where its goal is true under every interpretation and valuation that make its hypotheses true.
abbrev pub IsValidSequent : Sequent → Type 0
IsValidSequent s = IsValid s.params (map (λ v. v.1) s.vars) s.hyps s.goal
