-- When a certificate is legal: each step's own test is true, and what follows are the steps of the sequents that it gives.
use Rattle.std.specs.Prelude.{◌≡◌, ℕ, suc, ◌+◌, ◌==◌, leb, Bool, true, false, ◌&&◌, ◌||◌, List, [], ◌∷◌, ◌++◌, length, Option, Some, None, slice_get, if◌then◌else◌}
use Rattle.std.specs.List.{list_all}
use Rattle.math_terms.specs.declared.name.Line.{Line}
use Rattle.math_terms.specs.declared.name.RowName.{RowName}
use Rattle.math_terms.specs.declared.term.Term.{Term}
use Rattle.math_terms.specs.declared.term.Term.TheOpen.{Term-F}
use Rattle.math_terms.specs.declared.term.Term.TheViews.{out-Term}
use Rattle.math_terms.specs.Terms.{nodes}
use Rattle.math_terms.specs.Heads.{same_term}
use Rattle.num_theory.specs.Naming.{linear_test}
use Rattle.vc_sequents.specs.declared.sequent.Sequent.{Sequent}
use Rattle.vc_sequents.specs.Splitting.{GoalCase, goal_cases, hypothesis_cases, sorts_of, split_at}
use Rattle.cert_form.specs.declared.cert.Step.{Step}
use Rattle.cert_form.specs.declared.cert.Step.TheVariants as step
use Rattle.cert_check.specs.declared.verdict.Verdict.{Verdict}
use Rattle.cert_check.specs.declared.verdict.Verdict.TheVariants.{Legal, Illegal}

-- hypothesis K, counted from 1
abbrev pub hypothesis : Sequent → ℕ → Option Term
hypothesis s ℕ.zero = None
hypothesis s (suc k) = slice_get s.hyps k

abbrev pub passes : (Term → Bool) → Option Term → Bool
passes test None = false
passes test (Some f) = test f

abbrev pub true_form : Term-F Term → Bool
true_form (Term-F.Truth b) = b
true_form x = false

abbrev pub is_true : Term → Bool
is_true f = true_form (out-Term f)

abbrev pub false_form : Term-F Term → Bool
false_form (Term-F.Truth true) = false
false_form (Term-F.Truth false) = true
false_form x = false

abbrev pub is_false : Term → Bool
is_false f = false_form (out-Term f)

-- an equation of a term with itself
abbrev pub identity_form : Term-F Term → Bool
identity_form (Term-F.Eq a b) = same_term a b
identity_form x = false

abbrev pub is_identity : Term → Bool
is_identity f = identity_form (out-Term f)

-- the one formula is `not` of the other
abbrev pub negation_form : Term → Term-F Term → Bool
negation_form f (Term-F.Not a) = same_term f a
negation_form f x = false

abbrev pub is_negation_of : Term → Term → Bool
is_negation_of f g = negation_form f (out-Term g)

abbrev pub clash : Option Term → Option Term → Bool
clash None g = false
clash (Some f) g = passes (is_negation_of f) g

-- the named rows of the hypotheses and the negated goal, and what the lines append, end in a contradiction
abbrev pub linear_step : Sequent → List RowName → List Line → Bool
linear_step s names lines = linear_test (sorts_of s) s.hyps s.goal names lines

-- No formula may have more nodes.
unfoldable pub most_nodes : ℕ
most_nodes = 10000

abbrev pub is_small : Term → Bool
is_small f = leb (nodes f) most_nodes

-- all formulas that a split makes are small
abbrev pub small_cases : Option (List (List Term)) → Bool
small_cases None = true
small_cases (Some cs) = list_all (list_all is_small) cs

abbrev pub small_goal_cases : Option (List GoalCase) → Bool
small_goal_cases None = true
small_goal_cases (Some cs) = list_all (λ c. list_all is_small c.0 && is_small c.1) cs

abbrev pub small_split : Sequent → ℕ → Bool
small_split s ℕ.zero = small_goal_cases (goal_cases (sorts_of s) s.goal)
small_split s (suc k) = small_at (slice_get s.hyps k)
  where
    small_at : Option Term → Bool
    small_at None = true
    small_at (Some f) = small_cases (hypothesis_cases (sorts_of s) f)

abbrev pub of_length : ℕ → Option (List Sequent) → Option (List Sequent)
of_length n None = None
of_length n (Some ss) = if length ss == n then Some ss else None

abbrev pub when : Bool → Option (List Sequent)
when allowed = if allowed then Some [] else None

-- The sequents that a step gives, where it is allowed.
abbrev pub gives : Step → Sequent → Option (List Sequent)
gives step.Same s = when (is_true s.goal || is_identity s.goal)
gives (step.Hyp k) s = when (passes (same_term s.goal) (hypothesis s k))
gives (step.Absurd k) s = when (passes is_false (hypothesis s k))
gives (step.Clash k l) s = when (clash (hypothesis s k) (hypothesis s l))
gives (step.Linear rows lines) s = when (linear_step s rows lines)
gives (step.Split k n) s = if small_split s k then of_length n (split_at k s) else None
gives (step.Subst k) s = None
gives (step.Rewrite formula position rule with sides) s = None

abbrev pub next : ℕ → Option (List Sequent) → (List Sequent → Verdict) → Verdict
next n None go = Illegal n
next n (Some ss) go = go ss

-- Steps from number n on, for the sequents that still stand: the first step that is not allowed, the first that is left over, or the
-- number of steps where one is missing.
abbrev pub verdict_from : List Step → ℕ → List Sequent → Verdict
verdict_from [] n [] = Legal
verdict_from [] n (s ∷ ss) = Illegal n
verdict_from (st ∷ sts) n [] = Illegal n
verdict_from (st ∷ sts) n (s ∷ ss) = next n (gives st s) (λ new. verdict_from sts (n + 1) (new ++ ss))

abbrev pub verdict_of : List Step → Sequent → Verdict
verdict_of steps s = verdict_from steps 0 (s ∷ [])

abbrev pub IsLegal : List Step → Sequent → Type 0
IsLegal steps s = verdict_of steps s ≡ Legal
