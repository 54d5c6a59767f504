-- What a split gives, told by the cases of its formula.
use Rattle.std.proofs.Common.{◌≡◌, ◌∙◌, sym, ap, refl, ℕ, zero, suc, ◌<◌, Bool, true, false, List, [], ◌∷◌, length, map, Option, Some, None, slice_get, arith}
use Rattle.std.specs.Prelude.{if◌then◌else◌}
use Rattle.std.proofs.lemmas.Bool.{eq-eqb, ne_eqb}
use Rattle.math_terms.specs.declared.term.Term.{Term}
use Rattle.term_cells.specs.declared.cell.Cell.{Cell}
use Rattle.vc_sequents.specs.declared.sequent.Sequent.{Sequent}
use Rattle.vc_sequents.specs.Splitting.{GoalCase, goal_cases, hypothesis_cases, sorts_of, with_case, with_goal_case}
use Rattle.cert_form.specs.declared.cert.Step.TheVariants as step
use Rattle.cert_check.specs.declared.cases.Cases.{Cases}
use Rattle.cert_check.specs.declared.cases.Cases.TheVariants as split
use Rattle.cert_check.specs.working.Cases.{CasesAre, GoalCasesAre}
use Rattle.cert_check.specs.working.Children.{CasesAt, ChildIs, HypothesisCasesAre, SplitIs, count_of}
use Rattle.cert_check.specs.Legality.{gives, of_length, small_cases, small_goal_cases}

-- so many sequents, where their formulas are small
abbrev given : ℕ → Bool → List Sequent → Option (List Sequent)
given n small ss = if small then of_length n (Some ss) else None

given_all : (n : ℕ) (small : Bool) (ss : List Sequent) → small ≡ true → length ss ≡ n → given n small ss ≡ Some ss
given_all n small ss e l =
    ap (λ b. given n b ss) e ∙ ap (λ b. if b then Some ss else None) (eq-eqb (length ss) n l)

given_large : (n : ℕ) (small : Bool) (ss : List Sequent) → small ≡ false → given n small ss ≡ None
given_large n small ss e = ap (λ b. given n b ss) e

given_others : (n : ℕ) (small : Bool) (ss : List Sequent) → (length ss ≡ n → ⊥) → given n small ss ≡ None
given_others n true ss l = ap (λ b. if b then Some ss else None) (ne_eqb (length ss) n l)
given_others n false ss l = refl

module _ (s : Sequent) (n : ℕ) where
  goal_none : goal_cases (sorts_of s) s.goal ≡ None → gives (step.Split 0 n) s ≡ None
  goal_none e = rw e refl

  goal_some : (cs : List GoalCase) → goal_cases (sorts_of s) s.goal ≡ Some cs → gives (step.Split 0 n) s ≡ given n (small_goal_cases (Some cs)) (map (with_goal_case s) cs)
  goal_some cs e = rw e refl

  no_hypothesis : (k : ℕ) → slice_get s.hyps k ≡ None → gives (step.Split (suc k) n) s ≡ None
  no_hypothesis k e = rw e refl

  hypothesis_none : (k : ℕ) (f : Term) → slice_get s.hyps k ≡ Some f → hypothesis_cases (sorts_of s) f ≡ None → gives (step.Split (suc k) n) s ≡ None
  hypothesis_none k f here e = rw here (rw e refl)

  hypothesis_some : (k : ℕ) (f : Term) (css : List (List Term)) → slice_get s.hyps k ≡ Some f → hypothesis_cases (sorts_of s) f ≡ Some css → gives (step.Split (suc k) n) s ≡ given n (small_cases (Some css)) (map (with_case s k) css)
  hypothesis_some k f css here e = rw here (rw e refl)

  module _ (cells : List Cell) (small : Bool) where
    SmallAs : Cases → Type 0
    SmallAs cs = (((o : Option (List (List Term))) → CasesAre cells (Some cs) o → small ≡ small_cases o) × ((o : Option (List GoalCase)) → GoalCasesAre cells (Some cs) o → small ≡ small_goal_cases o))

    -- the sequents of the cases, and what the split gives
    Gives : ℕ → Cases → Type 0
    Gives k (split.One c) = (x : Sequent) × ChildIs cells k s c x × (gives (step.Split k n) s ≡ given n small (x ∷ []))
    Gives k (split.Two c d) = (x : Sequent) × (y : Sequent) × ChildIs cells k s c x × ChildIs cells k s d y × (gives (step.Split k n) s ≡ given n small (x ∷ y ∷ []))

    goal_gives : (cs : Cases) → SmallAs cs → GoalCasesAre cells (Some cs) (goal_cases (sorts_of s) s.goal) → Gives 0 cs
    unfolding SmallAs Gives
    goal_gives (split.One c) as_small h =
        let size = as_small.1 (Some (h.0 ∷ [])) (h.0, h.1, refl) in
        (with_goal_case s h.0, (h.0, h.1, refl), goal_some (h.0 ∷ []) h.2 ∙ ap (λ b. given n b (with_goal_case s h.0 ∷ [])) (sym size))
    goal_gives (split.Two c d) as_small h =
        let size = as_small.1 (Some (h.0 ∷ h.1 ∷ [])) (h.0, h.1, h.2, h.3, refl) in
        (with_goal_case s h.0, with_goal_case s h.1, (h.0, h.2, refl), (h.1, h.3, refl), goal_some (h.0 ∷ h.1 ∷ []) h.4 ∙ ap (λ b. given n b (with_goal_case s h.0 ∷ with_goal_case s h.1 ∷ [])) (sym size))

    within : (k : ℕ) (xs : List Term) (f : Term) → slice_get xs k ≡ Some f → k < length xs
    within k [] f e = cc
    within zero (x ∷ xs) f e = omega arith
    within (suc k) (x ∷ xs) f e = let rest = within k xs f e in omega arith

    hypothesis_gives : (k : ℕ) (f : Term) → slice_get s.hyps k ≡ Some f → (cs : Cases) → SmallAs cs → CasesAre cells (Some cs) (hypothesis_cases (sorts_of s) f) → Gives (suc k) cs
    unfolding SmallAs Gives
    hypothesis_gives k f here (split.One c) as_small h =
        let size = as_small.0 (Some (h.0 ∷ [])) (h.0, h.1, refl) in
        let few = within k s.hyps f here in
        (with_case s k h.0, (h.0, h.1, refl, few), hypothesis_some k f (h.0 ∷ []) here h.2 ∙ ap (λ b. given n b (with_case s k h.0 ∷ [])) (sym size))
    hypothesis_gives k f here (split.Two c d) as_small h =
        let size = as_small.0 (Some (h.0 ∷ h.1 ∷ [])) (h.0, h.1, h.2, h.3, refl) in
        let few = within k s.hyps f here in
        (with_case s k h.0, with_case s k h.1, (h.0, h.2, refl, few), (h.1, h.3, refl, few), hypothesis_some k f (h.0 ∷ h.1 ∷ []) here h.4 ∙ ap (λ b. given n b (with_case s k h.0 ∷ with_case s k h.1 ∷ [])) (sym size))

    some_gives : (k : ℕ) (cs : Cases) → SmallAs cs → CasesAt cells k s (Some cs) → Gives k cs
    some_gives zero cs as_small h = goal_gives cs as_small h
    some_gives (suc k) cs as_small h = at_hypothesis (slice_get s.hyps k) refl h
      where
        at_hypothesis : (o : Option Term) → slice_get s.hyps k ≡ o → HypothesisCasesAre cells (sorts_of s) o (Some cs) → Gives (suc k) cs
        at_hypothesis None e g = cc
        at_hypothesis (Some f) e g = hypothesis_gives k f e cs as_small g

    pub split_allowed : (k : ℕ) (cs : Cases) → ((o : Option (List (List Term))) → CasesAre cells (Some cs) o → small ≡ small_cases o) → ((o : Option (List GoalCase)) → GoalCasesAre cells (Some cs) o → small ≡ small_goal_cases o) →
        CasesAt cells k s (Some cs) → small ≡ true → count_of cs ≡ n → SplitIs cells k n s (Some cs)
    unfolding SmallAs Gives
    split_allowed k (split.One c) f g h e l =
        let all = some_gives k (split.One c) (f, g) h in
        (all.0, all.1, all.2 ∙ given_all n small (all.0 ∷ []) e l)
    split_allowed k (split.Two c d) f g h e l =
        let all = some_gives k (split.Two c d) (f, g) h in
        (all.0, all.1, all.2, all.3, all.4 ∙ given_all n small (all.0 ∷ all.1 ∷ []) e l)

    pub split_large : (k : ℕ) (cs : Cases) → ((o : Option (List (List Term))) → CasesAre cells (Some cs) o → small ≡ small_cases o) → ((o : Option (List GoalCase)) → GoalCasesAre cells (Some cs) o → small ≡ small_goal_cases o) →
        CasesAt cells k s (Some cs) → small ≡ false → SplitIs cells k n s None
    unfolding SmallAs Gives
    split_large k (split.One c) f g h e =
        let all = some_gives k (split.One c) (f, g) h in
        all.2 ∙ given_large n small (all.0 ∷ []) e
    split_large k (split.Two c d) f g h e =
        let all = some_gives k (split.Two c d) (f, g) h in
        all.4 ∙ given_large n small (all.0 ∷ all.1 ∷ []) e

  pub split_none : (cells : List Cell) (k : ℕ) → CasesAt cells k s None → SplitIs cells k n s None
  split_none cells zero h = goal_none h
  split_none cells (suc k) h = at_hypothesis (slice_get s.hyps k) refl h
    where
      at_hypothesis : (o : Option Term) → slice_get s.hyps k ≡ o → HypothesisCasesAre cells (sorts_of s) o None → gives (step.Split (suc k) n) s ≡ None
      at_hypothesis None e g = no_hypothesis k e
      at_hypothesis (Some f) e g = hypothesis_none k f e g

  goal_others : (cells : List Cell) (cs : Cases) → GoalCasesAre cells (Some cs) (goal_cases (sorts_of s) s.goal) → (count_of cs ≡ n → ⊥) → SplitIs cells 0 n s None
  goal_others cells (split.One c) h l = goal_some (h.0 ∷ []) h.2 ∙ given_others n (small_goal_cases (Some (h.0 ∷ []))) (with_goal_case s h.0 ∷ []) l
  goal_others cells (split.Two c d) h l =
      goal_some (h.0 ∷ h.1 ∷ []) h.4 ∙ given_others n (small_goal_cases (Some (h.0 ∷ h.1 ∷ []))) (with_goal_case s h.0 ∷ with_goal_case s h.1 ∷ []) l

  hypothesis_others : (cells : List Cell) (k : ℕ) (f : Term) → slice_get s.hyps k ≡ Some f → (cs : Cases) → CasesAre cells (Some cs) (hypothesis_cases (sorts_of s) f) → (count_of cs ≡ n → ⊥) → SplitIs cells (suc k) n s None
  hypothesis_others cells k f here (split.One c) h l = hypothesis_some k f (h.0 ∷ []) here h.2 ∙ given_others n (small_cases (Some (h.0 ∷ []))) (with_case s k h.0 ∷ []) l
  hypothesis_others cells k f here (split.Two c d) h l =
      hypothesis_some k f (h.0 ∷ h.1 ∷ []) here h.4 ∙ given_others n (small_cases (Some (h.0 ∷ h.1 ∷ []))) (with_case s k h.0 ∷ with_case s k h.1 ∷ []) l

  pub split_others : (cells : List Cell) (k : ℕ) (cs : Cases) → CasesAt cells k s (Some cs) → (count_of cs ≡ n → ⊥) → SplitIs cells k n s None
  split_others cells zero cs h l = goal_others cells cs h l
  split_others cells (suc k) cs h l = at_hypothesis (slice_get s.hyps k) refl h
    where
      at_hypothesis : (o : Option Term) → slice_get s.hyps k ≡ o → HypothesisCasesAre cells (sorts_of s) o (Some cs) → SplitIs cells (suc k) n s None
      at_hypothesis None e g = cc
      at_hypothesis (Some f) e g = hypothesis_others cells k f e cs g l
