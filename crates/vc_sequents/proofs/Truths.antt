-- What a formula gives is true where the formula is, under one interpretation and valuation.
use Rattle.std.proofs.Common.{◌≡◌, ◌∙◌, sym, ap, refl, subst, ℕ, zero, suc, Bool, true, false, not, ◌&&◌, ◌||◌, cond, List, [], ◌∷◌, ◌++◌, Option, Some, None, slice_get, int_lt}
use Rattle.std.proofs.lemmas.Bool.{and_parts, cond_both}
use Rattle.std.specs.List.{list_all, list_any}
use Rattle.math_terms.specs.declared.descriptor.Sort.{Sort}
use Rattle.math_terms.specs.declared.descriptor.Sort.TheOpen.{Sort-F}
use Rattle.math_terms.specs.declared.descriptor.Sort.TheViews.{roll-Sort, out-Sort, roll-out-Sort}
use Rattle.math_terms.specs.declared.term.Term.{Term}
use Rattle.math_terms.specs.declared.term.Term.TheOpen.{Term-F}
use Rattle.math_terms.specs.declared.term.Term.TheViews.{roll-Term, out-Term}
use Rattle.math_terms.specs.declared.term.Term.TheFolds.{map-Term, fold-roll-Term, fold_out-Term}
use Rattle.math_terms.specs.Values.{Val, Num, Truth, Str, Tup, is_number, is_truth, number, same, truth}
use Rattle.math_terms.specs.Meaning.{Valuation, value_step}
use Rattle.math_terms.specs.Descriptors.{Interpretation, holds, starts_in, value}
use Rattle.math_terms.specs.Sorts.{b, is_b, is_z, b_form, z, z_form}
use Rattle.math_terms.specs.Kinds.{kind}
use Rattle.vc_sequents.specs.Splitting.{Cases, GoalCase, and as and_of, form_cases, form_goals, goal_cases, hypothesis_cases, implies as implies_of, less, less_eq, negation_cases, not as not_of, of_numbers, of_truths, one_goal, or as or_of, truth as truth_of, two_goals, in_place}
use Rattle.vc_sequents.proofs.Booleans.{and-true, list_all_append, list_any-and, and-list_any, list_any_same, not-and, not-equal_order, not-implies, not-int_le, not-int_lt, not-not, not-or, or-false, or_comm}

is_z_tells : (x : Sort-F Sort) → z_form x ≡ true → roll-Sort x ≡ z
is_z_tells Sort-F.Z h = refl
is_z_tells Sort-F.B h = cc
is_z_tells (Sort-F.Str s) h = cc
is_z_tells (Sort-F.Tup ss) h = cc
is_z_tells (Sort-F.Param k) h = cc
is_z_tells Sort-F.Any h = cc

is_b_tells : (x : Sort-F Sort) → b_form x ≡ true → roll-Sort x ≡ b
is_b_tells Sort-F.Z h = cc
is_b_tells Sort-F.B h = refl
is_b_tells (Sort-F.Str s) h = cc
is_b_tells (Sort-F.Tup ss) h = cc
is_b_tells (Sort-F.Param k) h = cc
is_b_tells Sort-F.Any h = cc

-- the sort that a test of its form tells
pub z_from_test : (s : Sort) → is_z s ≡ true → s ≡ z
z_from_test s h = sym (roll-out-Sort s) ∙ is_z_tells (out-Sort s) h

pub b_from_test : (s : Sort) → is_b s ≡ true → s ≡ b
b_from_test s h = sym (roll-out-Sort s) ∙ is_b_tells (out-Sort s) h

-- equality of two numbers, and of two truth values
unequal_numbers : (u v : Val) → is_number u ≡ true → is_number v ≡ true → not (same u v) ≡ (int_lt (number u) (number v) || int_lt (number v) (number u))
unequal_numbers (Num m) (Num n) h k = not-equal_order (int_lt m n) (int_lt n m)
unequal_numbers (Num m) (Truth c) h k = cc
unequal_numbers (Num m) (Str vs) h k = cc
unequal_numbers (Num m) (Tup vs) h k = cc
unequal_numbers (Truth c) v h k = cc
unequal_numbers (Str vs) v h k = cc
unequal_numbers (Tup vs) v h k = cc

-- Two truth values, by a law of theirs and of what stands for their equality.
abbrev truths_equal : Bool → Bool → Bool
truths_equal p q = cond p q (not q)

same_truths : (u v : Val) → is_truth u ≡ true → is_truth v ≡ true → same u v ≡ truths_equal (truth u) (truth v)
same_truths (Truth p) (Truth q) h k = refl
same_truths (Truth p) (Num n) h k = cc
same_truths (Truth p) (Str vs) h k = cc
same_truths (Truth p) (Tup vs) h k = cc
same_truths (Num n) v h k = cc
same_truths (Str vs) v h k = cc
same_truths (Tup vs) v h k = cc

both_or_neither : (p q : Bool) → truths_equal p q ≡ ((p && q) || (not p && not q))
both_or_neither true true = refl
both_or_neither true false = refl
both_or_neither false q = refl

one_alone : (p q : Bool) → not (truths_equal p q) ≡ ((p && not q) || (not p && q))
one_alone true true = refl
one_alone true false = refl
one_alone false true = refl
one_alone false false = refl

one_way_fails : (p q : Bool) → not (truths_equal p q) ≡ (not (not p || q) || not (not q || p))
one_way_fails true true = refl
one_way_fails true false = refl
one_way_fails false true = refl
one_way_fails false false = refl

module _ (I : Interpretation) (w : Valuation) where
  -- the value of a node from its children
  abbrev pub true_node : Term-F Term → Bool
  true_node x = truth (value_step (starts_in I) w (map-Term Term Val (value I w) x))

  holds_roll : (x : Term-F Term) → holds I w (roll-Term x) ≡ true_node x
  holds_roll x = ap truth (fold-roll-Term Val (value_step (starts_in I) w) x)

  holds_out : (t : Term) → holds I w t ≡ true_node (out-Term t)
  holds_out t = ap truth (fold_out-Term Val (value_step (starts_in I) w) t)

  abbrev pub all_hold : List Term → Bool
  all_hold fs = list_all (holds I w) fs

  -- one case and two cases of one or two formulas
  one_formula : (f : Term) → holds I w f ≡ list_any all_hold ((f ∷ []) ∷ [])
  one_formula f = sym (or-false (holds I w f && true) ∙ and-true (holds I w f))

  two_formulas : (f g : Term) → (holds I w f && holds I w g) ≡ list_any all_hold ((f ∷ g ∷ []) ∷ [])
  two_formulas f g = sym (or-false (holds I w f && (holds I w g && true)) ∙ ap (λ c. holds I w f && c) (and-true (holds I w g)))

  either : (f g : Term) → (holds I w f || holds I w g) ≡ list_any all_hold ((f ∷ []) ∷ (g ∷ []) ∷ [])
  either f g = λ i. sym (and-true (holds I w f)) i || one_formula g i

  either_two : (f g h k : Term) → ((holds I w f && holds I w g) || (holds I w h && holds I w k)) ≡ list_any all_hold ((f ∷ g ∷ []) ∷ (h ∷ k ∷ []) ∷ [])
  either_two f g h k = λ i. (holds I w f && sym (and-true (holds I w g)) i) || two_formulas h k i

  -- a truth value is that of some case, where there are cases
  abbrev pub Tells : Bool → Cases → Type 0
  Tells t None = Unit {0}
  Tells t (Some cs) = t ≡ list_any all_hold cs

  abbrev pub GoalTells : Bool → Option (List GoalCase) → Type 0
  GoalTells t None = Unit {0}
  GoalTells t (Some cs) = t ≡ list_any (λ (c : GoalCase). all_hold c.0 && not (holds I w c.1)) cs

  at_most_fails : (a c : Term) → int_lt (number (value I w c)) (number (value I w a)) ≡ not (holds I w (less_eq a c))
  at_most_fails a c = sym (not-int_le (number (value I w a)) (number (value I w c))) ∙ ap not (sym (holds_roll (Term-F.LessEq a c)))

  not_is : (a : Term) → not (holds I w a) ≡ holds I w (not_of a)
  not_is a = sym (holds_roll (Term-F.Not a))

  one_goal_tells : (f g : Term) → GoalTells (holds I w f && not (holds I w g)) (one_goal f g)
  one_goal_tells f g = (λ i. sym (and-true (holds I w f)) i && not (holds I w g)) ∙ sym (or-false ((holds I w f && true) && not (holds I w g)))

  two_goals_tell : (f g : Term) → GoalTells (not (holds I w f) || not (holds I w g)) (two_goals f g)
  two_goals_tell f g = ap (λ c. not (holds I w f) || c) (sym (or-false (not (holds I w g))))

  module _ (vars : List Sort) (numbers : (t : Term) → is_z (kind vars t) ≡ true → is_number (value I w t) ≡ true) (truths : (t : Term) → is_b (kind vars t) ≡ true → is_truth (value I w t) ≡ true) where
    unequal_numbers_in : (x y : Term) → of_numbers vars x y ≡ true →
        not (same (value I w x) (value I w y)) ≡ (int_lt (number (value I w x)) (number (value I w y)) || int_lt (number (value I w y)) (number (value I w x)))
    unequal_numbers_in x y h =
        let p = and_parts (is_z (kind vars x)) (is_z (kind vars y)) h in
        unequal_numbers (value I w x) (value I w y) (numbers x p.0) (numbers y p.1)

    same_truths_in : (x y : Term) → of_truths vars x y ≡ true → same (value I w x) (value I w y) ≡ truths_equal (holds I w x) (holds I w y)
    same_truths_in x y h =
        let p = and_parts (is_b (kind vars x)) (is_b (kind vars y)) h in
        same_truths (value I w x) (value I w y) (truths x p.0) (truths y p.1)

    unequal_tells : (x y : Term) → Tells (not (same (value I w x) (value I w y))) (negation_cases vars (Term-F.Eq x y))
    unequal_tells x y =
        cond_both (of_numbers vars x y) _ _ (Tells (not (same (value I w x) (value I w y))))
        (λ h. unequal_numbers_in x y h ∙ (λ i. sym (holds_roll (Term-F.Less x y)) i || sym (holds_roll (Term-F.Less y x)) i) ∙ either (less x y) (less y x))
        (λ _. cond_both (of_truths vars x y) _ _ (Tells (not (same (value I w x) (value I w y))))
        (λ h. ap not (same_truths_in x y h) ∙ one_alone (holds I w x) (holds I w y) ∙ (λ i. (holds I w x && not_is y i) || (not_is x i && holds I w y)) ∙ either_two x (not_of y) (not_of x) y)
        (λ _. tt))

    negation_tells : (x : Term-F Term) → Tells (not (true_node x)) (negation_cases vars x)
    negation_tells (Term-F.Truth true) = sym (holds_roll (Term-F.Truth false)) ∙ one_formula (truth_of false)
    negation_tells (Term-F.Truth false) = sym (holds_roll (Term-F.Truth true)) ∙ one_formula (truth_of true)
    negation_tells (Term-F.Not x) = not-not (holds I w x) ∙ one_formula x
    negation_tells (Term-F.And x y) =
        not-and (holds I w x) (holds I w y) ∙ (λ i. not_is x i || not_is y i) ∙ sym (holds_roll (Term-F.Or (not_of x) (not_of y))) ∙ one_formula (or_of (not_of x) (not_of y))
    negation_tells (Term-F.Or x y) =
        not-or (holds I w x) (holds I w y) ∙ (λ i. not_is x i && not_is y i) ∙ sym (holds_roll (Term-F.And (not_of x) (not_of y))) ∙ one_formula (and_of (not_of x) (not_of y))
    negation_tells (Term-F.Implies x y) =
        not-implies (holds I w x) (holds I w y) ∙ (λ i. holds I w x && not_is y i) ∙ sym (holds_roll (Term-F.And x (not_of y))) ∙ one_formula (and_of x (not_of y))
    negation_tells (Term-F.LessEq x y) =
        not-int_le (number (value I w x)) (number (value I w y)) ∙ sym (holds_roll (Term-F.Less y x)) ∙ one_formula (less y x)
    negation_tells (Term-F.Less x y) =
        not-int_lt (number (value I w x)) (number (value I w y)) ∙ sym (holds_roll (Term-F.LessEq y x)) ∙ one_formula (less_eq y x)
    negation_tells (Term-F.Eq x y) = unequal_tells x y
    negation_tells x = tt

    equal_tells : (x y : Term) → Tells (same (value I w x) (value I w y)) (form_cases vars (Term-F.Eq x y))
    equal_tells x y =
        cond_both (of_truths vars x y) _ _ (Tells (same (value I w x) (value I w y)))
        (λ h. same_truths_in x y h ∙ both_or_neither (holds I w x) (holds I w y) ∙ (λ i. (holds I w x && holds I w y) || (not_is x i && not_is y i)) ∙ either_two x y (not_of x) (not_of y))
        (λ _. tt)

    form_tells : (x : Term-F Term) → Tells (true_node x) (form_cases vars x)
    form_tells (Term-F.Truth true) = refl
    form_tells (Term-F.And x y) = two_formulas x y
    form_tells (Term-F.Or x y) = either x y
    form_tells (Term-F.Implies x y) = (λ i. not_is x i || holds I w y) ∙ either (not_of x) y
    form_tells (Term-F.Not x) = subst (λ t. Tells t (negation_cases vars (out-Term x))) (ap not (sym (holds_out x))) (negation_tells (out-Term x))
    form_tells (Term-F.Eq x y) = equal_tells x y
    form_tells x = tt

    -- a hypothesis is true where all formulas of one of its cases are
    pub hypothesis_tells : (f : Term) → Tells (holds I w f) (hypothesis_cases vars f)
    hypothesis_tells f = subst (λ t. Tells t (hypothesis_cases vars f)) (sym (holds_out f)) (form_tells (out-Term f))

    equation_tells : (x y : Term) → GoalTells (not (same (value I w x) (value I w y))) (form_goals vars (Term-F.Eq x y))
    equation_tells x y =
        cond_both (of_numbers vars x y) _ _ (GoalTells (not (same (value I w x) (value I w y))))
        (λ h.
        unequal_numbers_in x y h
        ∙ or_comm (int_lt (number (value I w x)) (number (value I w y))) (int_lt (number (value I w y)) (number (value I w x)))
        ∙ (λ i. at_most_fails x y i || at_most_fails y x i)
        ∙ two_goals_tell (less_eq x y) (less_eq y x))
        (λ _. cond_both (of_truths vars x y) _ _ (GoalTells (not (same (value I w x) (value I w y))))
        (λ h.
        ap not (same_truths_in x y h)
        ∙ one_way_fails (holds I w x) (holds I w y)
        ∙ (λ i. not (sym (holds_roll (Term-F.Implies x y)) i) || not (sym (holds_roll (Term-F.Implies y x)) i))
        ∙ two_goals_tell (implies_of x y) (implies_of y x))
        (λ _. tt))

    form_goals_tell : (x : Term-F Term) → GoalTells (not (true_node x)) (form_goals vars x)
    form_goals_tell (Term-F.And x y) = not-and (holds I w x) (holds I w y) ∙ two_goals_tell x y
    form_goals_tell (Term-F.Or x y) = not-or (holds I w x) (holds I w y) ∙ (λ i. not_is x i && not (holds I w y)) ∙ one_goal_tells (not_of x) y
    form_goals_tell (Term-F.Implies x y) = not-implies (holds I w x) (holds I w y) ∙ one_goal_tells x y
    form_goals_tell (Term-F.Not x) =
        not-not (holds I w x) ∙ sym (and-true (holds I w x)) ∙ ap (λ c. holds I w x && not c) (sym (holds_roll (Term-F.Truth false))) ∙ one_goal_tells x (truth_of false)
    form_goals_tell (Term-F.Eq x y) = equation_tells x y
    form_goals_tell x = tt

    -- a goal is false where all formulas of one of its cases are true and the goal of the case is false
    pub goal_tells : (f : Term) → GoalTells (not (holds I w f)) (goal_cases vars f)
    goal_tells f = subst (λ t. GoalTells t (goal_cases vars f)) (ap not (sym (holds_out f))) (form_goals_tell (out-Term f))

  -- the formulas of a case in the place of a hypothesis
  pub placed_hold : (k : ℕ) (hyps : List Term) (f : Term) (cs : List (List Term)) →
      slice_get hyps k ≡ Some f → holds I w f ≡ list_any all_hold cs → all_hold hyps ≡ list_any (λ c. all_hold (in_place k c hyps)) cs
  placed_hold k [] f cs at e = cc
  placed_hold zero (g ∷ gs) f cs at e =
      let same_one : g ≡ f = cc in
      ap (λ t. holds I w t && all_hold gs) same_one
      ∙ ap (λ c. c && all_hold gs) e
      ∙ list_any-and all_hold (all_hold gs) cs
      ∙ list_any_same (λ c. all_hold c && all_hold gs) (λ c. all_hold (c ++ gs)) cs (λ c. sym (list_all_append (holds I w) c gs))
  placed_hold (suc k) (g ∷ gs) f cs at e =
      ap (λ c. holds I w g && c) (placed_hold k gs f cs at e) ∙ and-list_any (λ c. all_hold (in_place k c gs)) (holds I w g) cs
