-- The sequents of a split, told by the cell in which the formula stands.
use Rattle.std.proofs.Common.{◌≡◌, ◌∙◌, sym, ap, refl, subst, ℕ, pos, Bool, true, false, not, List, [], ◌∷◌, Option, Some, None, slice_get}
use Rattle.std.specs.Prelude.{if◌then◌else◌}
use Rattle.std.specs.Ordering.{int_eq}
use Rattle.std.proofs.lemmas.Option.{same_Some}
use Rattle.math_terms.specs.declared.descriptor.Sort.{Sort}
use Rattle.math_terms.specs.declared.term.Term.{Term}
use Rattle.math_terms.specs.declared.term.Term.TheOpen.{Term-F}
use Rattle.math_terms.specs.declared.term.Term.TheViews.{out-Term}
use Rattle.math_terms.specs.declared.term.Term.TheFolds.{fold-roll-Term}
use Rattle.math_terms.specs.declared.form.Form.{Form}
use Rattle.math_terms.specs.Forms.{form, form_number}
use Rattle.math_terms.specs.Terms.{nodes_step}
use Rattle.term_cells.specs.declared.cell.Cell.{Cell}
use Rattle.term_cells.specs.Growing.{IsFewForm}
use Rattle.term_cells.specs.Standing.{stands}
use Rattle.term_cells.specs.Laws.{LeavesOpen, OneOpens, StandingOpens, TwoOpens, StandsTwo, StandsOne}
use Rattle.vc_sequents.specs.Splitting as rule
use Rattle.cert_check.specs.declared.cases.Part.TheVariants.{At, Truth, Not, Two, OfNegations, AndNot}
use Rattle.cert_check.specs.declared.cases.Case.TheVariants.{Nothing, Only, Both}
use Rattle.cert_check.specs.declared.cases.Cases.{Cases}
use Rattle.cert_check.specs.declared.cases.Cases.TheVariants as split
use Rattle.cert_check.specs.working.Cases.{CasesAre, GoalCasesAre, IsOver}
use Rattle.cert_check.proofs.Telling.{form_told}

few : (k : ℕ) → IsFewForm 18 × IsFewForm 19 × IsFewForm 20 × IsFewForm 22 × IsFewForm 23 × IsFewForm 24
few k =
    (record { no_tuple = refl; no_remainder = refl }, record { no_tuple = refl; no_remainder = refl }, record { no_tuple = refl; no_remainder = refl }, record { no_tuple = refl; no_remainder = refl }, record { no_tuple = refl; no_remainder = refl }, record { no_tuple = refl; no_remainder = refl })

less_over : (a b : Term) → IsOver 19 a b (rule.less a b)
less_over a b = (Term-F.Less a b, record { form_is = refl; own_is = refl; children_are = refl }, (few 0).1, refl, fold-roll-Term ℕ nodes_step (Term-F.Less a b))

less_eq_over : (a b : Term) → IsOver 20 a b (rule.less_eq a b)
less_eq_over a b = (Term-F.LessEq a b, record { form_is = refl; own_is = refl; children_are = refl }, (few 0).2, refl, fold-roll-Term ℕ nodes_step (Term-F.LessEq a b))

and_over : (a b : Term) → IsOver 22 a b (rule.and a b)
and_over a b = (Term-F.And a b, record { form_is = refl; own_is = refl; children_are = refl }, (few 0).3, refl, fold-roll-Term ℕ nodes_step (Term-F.And a b))

or_over : (a b : Term) → IsOver 23 a b (rule.or a b)
or_over a b = (Term-F.Or a b, record { form_is = refl; own_is = refl; children_are = refl }, (few 0).4, refl, fold-roll-Term ℕ nodes_step (Term-F.Or a b))

implies_over : (a b : Term) → IsOver 24 a b (rule.implies a b)
implies_over a b = (Term-F.Implies a b, record { form_is = refl; own_is = refl; children_are = refl }, (few 0).5, refl, fold-roll-Term ℕ nodes_step (Term-F.Implies a b))

other_hypothesis : (vars : List Sort) (x : Term-F Term) → (form x ≡ Form.Truth → ⊥) → (form x ≡ Form.Eq → ⊥) → (form x ≡ Form.Not → ⊥) → (form x ≡ Form.And → ⊥) → (form x ≡ Form.Or → ⊥) → (form x ≡ Form.Implies → ⊥) → rule.form_cases vars x ≡ None
other_hypothesis vars (Term-F.Truth b) f g h i j k = absurd (f refl)
other_hypothesis vars (Term-F.Eq a b) f g h i j k = absurd (g refl)
other_hypothesis vars (Term-F.Not a) f g h i j k = absurd (h refl)
other_hypothesis vars (Term-F.And a b) f g h i j k = absurd (i refl)
other_hypothesis vars (Term-F.Or a b) f g h i j k = absurd (j refl)
other_hypothesis vars (Term-F.Implies a b) f g h i j k = absurd (k refl)
other_hypothesis vars x f g h i j k = refl

other_negation : (vars : List Sort) (x : Term-F Term) → (form x ≡ Form.Truth → ⊥) → (form x ≡ Form.Eq → ⊥) → (form x ≡ Form.Less → ⊥) → (form x ≡ Form.LessEq → ⊥) → (form x ≡ Form.Not → ⊥) → (form x ≡ Form.And → ⊥) → (form x ≡ Form.Or → ⊥) → (form x ≡ Form.Implies → ⊥) → rule.negation_cases vars x ≡ None
other_negation vars (Term-F.Truth b) f g h i j k l m = absurd (f refl)
other_negation vars (Term-F.Eq a b) f g h i j k l m = absurd (g refl)
other_negation vars (Term-F.Less a b) f g h i j k l m = absurd (h refl)
other_negation vars (Term-F.LessEq a b) f g h i j k l m = absurd (i refl)
other_negation vars (Term-F.Not a) f g h i j k l m = absurd (j refl)
other_negation vars (Term-F.And a b) f g h i j k l m = absurd (k refl)
other_negation vars (Term-F.Or a b) f g h i j k l m = absurd (l refl)
other_negation vars (Term-F.Implies a b) f g h i j k l m = absurd (m refl)
other_negation vars x f g h i j k l m = refl

other_goal : (vars : List Sort) (x : Term-F Term) → (form x ≡ Form.Eq → ⊥) → (form x ≡ Form.Not → ⊥) → (form x ≡ Form.And → ⊥) → (form x ≡ Form.Or → ⊥) → (form x ≡ Form.Implies → ⊥) → rule.form_goals vars x ≡ None
other_goal vars (Term-F.Eq a b) g h i j k = absurd (g refl)
other_goal vars (Term-F.Not a) g h i j k = absurd (h refl)
other_goal vars (Term-F.And a b) g h i j k = absurd (i refl)
other_goal vars (Term-F.Or a b) g h i j k = absurd (j refl)
other_goal vars (Term-F.Implies a b) g h i j k = absurd (k refl)
other_goal vars x g h i j k = refl

truth_negated : (vars : List Sort) (b : Bool) → rule.negation_cases vars (Term-F.Truth b) ≡ rule.one_case (rule.truth (not b) ∷ [])
truth_negated vars true = refl
truth_negated vars false = refl

module _ (opens : StandingOpens) (cells : List Cell) (vars : List Sort) (t : Term) (at : ℕ) (c : Cell) (standing : stands cells t at ≡ true) (here : slice_get cells at ≡ Some c) where
  pub formless : ((g : Form) → c.form ≡ form_number g → ⊥) → ⊥
  formless h = h (form (out-Term t)) (sym (form_told opens cells t at standing c here))

  module _ (f : Form) (only : (g : Form) → c.form ≡ form_number g → Some f ≡ Some g) where
    its_form : form (out-Term t) ≡ f
    its_form = sym (same_Some f (form (out-Term t)) (only (form (out-Term t)) (sym (form_told opens cells t at standing c here))))

    other : (k : Form) → (f ≡ k → ⊥) → form (out-Term t) ≡ k → ⊥
    other k h e = h (sym its_form ∙ e)

    pub no_hypothesis : (f ≡ Form.Truth → ⊥) → (f ≡ Form.Eq → ⊥) → (f ≡ Form.Not → ⊥) → (f ≡ Form.And → ⊥) → (f ≡ Form.Or → ⊥) → (f ≡ Form.Implies → ⊥) → CasesAre cells None (rule.hypothesis_cases vars t)
    no_hypothesis g h i j k l = other_hypothesis vars (out-Term t) (other Form.Truth g) (other Form.Eq h) (other Form.Not i) (other Form.And j) (other Form.Or k) (other Form.Implies l)

    pub no_negation : (f ≡ Form.Truth → ⊥) → (f ≡ Form.Eq → ⊥) → (f ≡ Form.Less → ⊥) → (f ≡ Form.LessEq → ⊥) → (f ≡ Form.Not → ⊥) → (f ≡ Form.And → ⊥) → (f ≡ Form.Or → ⊥) → (f ≡ Form.Implies → ⊥) → CasesAre cells None (rule.negation_cases vars (out-Term t))
    no_negation g h i j k l m n = other_negation vars (out-Term t) (other Form.Truth g) (other Form.Eq h) (other Form.Less i) (other Form.LessEq j) (other Form.Not k) (other Form.And l) (other Form.Or m) (other Form.Implies n)

    pub no_goal : (f ≡ Form.Eq → ⊥) → (f ≡ Form.Not → ⊥) → (f ≡ Form.And → ⊥) → (f ≡ Form.Or → ⊥) → (f ≡ Form.Implies → ⊥) → GoalCasesAre cells None (rule.goal_cases vars t)
    no_goal g h i j k = other_goal vars (out-Term t) (other Form.Eq g) (other Form.Not h) (other Form.And i) (other Form.Or j) (other Form.Implies k)

module _ (leaves : LeavesOpen) (cells : List Cell) (vars : List Sort) (t : Term) (at : ℕ) (c : Cell) (standing : stands cells t at ≡ true) (here : slice_get cells at ≡ Some c) (k : c.form ≡ 1) where
  form_truth : (b : Bool) → CasesAre cells (if b then Some (split.One Nothing) else None) (rule.form_cases vars (Term-F.Truth b))
  form_truth true = ([], refl, refl)
  form_truth false = refl

  pub truth_hypothesis : (b : Bool) → b ≡ int_eq c.own (pos 1) → (r : Option Cases) → r ≡ (if b then Some (split.One Nothing) else None) → CasesAre cells r (rule.hypothesis_cases vars t)
  truth_hypothesis b e r is =
      let P : Option Cases → Term-F Term → Type 0 = λ o x. CasesAre cells o (rule.form_cases vars x) in
      let told : Term-F.Truth b ≡ out-Term t = ap Term-F.Truth e ∙ sym (leaves.truth cells t at c here k standing) in
      subst (λ o. P o (out-Term t)) (sym is) (subst (P (if b then Some (split.One Nothing) else None)) told (form_truth b))

  pub truth_negation : (b : Bool) → b ≡ not (int_eq c.own (pos 1)) → CasesAre cells (Some (split.One (Only (Truth b)))) (rule.negation_cases vars (out-Term t))
  truth_negation b e =
      let is : rule.negation_cases vars (out-Term t) ≡ rule.one_case (rule.truth b ∷ []) =
      ap (rule.negation_cases vars) (leaves.truth cells t at c here k standing) ∙ truth_negated vars (int_eq c.own (pos 1)) ∙ ap (λ v. rule.one_case (rule.truth v ∷ [])) (sym e) in
      (rule.truth b ∷ [], (rule.truth b, refl, refl), is)

module _ (two : TwoOpens) (cells : List Cell) (vars : List Sort) (t : Term) (at : ℕ) (c : Cell) (standing : stands cells t at ≡ true) (here : slice_get cells at ≡ Some c) where
  ands : c.form ≡ 22 → StandsTwo cells t Term-F.And c at
  ands k = two Term-F.And 22 (λ a b. record { form_is = refl; own_is = refl; children_are = refl }) refl cells t at c here k standing

  ors : c.form ≡ 23 → StandsTwo cells t Term-F.Or c at
  ors k = two Term-F.Or 23 (λ a b. record { form_is = refl; own_is = refl; children_are = refl }) refl cells t at c here k standing

  implications : c.form ≡ 24 → StandsTwo cells t Term-F.Implies c at
  implications k = two Term-F.Implies 24 (λ a b. record { form_is = refl; own_is = refl; children_are = refl }) refl cells t at c here k standing

  equations : c.form ≡ 18 → StandsTwo cells t Term-F.Eq c at
  equations k = two Term-F.Eq 18 (λ a b. record { form_is = refl; own_is = refl; children_are = refl }) refl cells t at c here k standing

  lesses : c.form ≡ 19 → StandsTwo cells t Term-F.Less c at
  lesses k = two Term-F.Less 19 (λ a b. record { form_is = refl; own_is = refl; children_are = refl }) refl cells t at c here k standing

  less_eqs : c.form ≡ 20 → StandsTwo cells t Term-F.LessEq c at
  less_eqs k = two Term-F.LessEq 20 (λ a b. record { form_is = refl; own_is = refl; children_are = refl }) refl cells t at c here k standing

  pub and_hypothesis : c.form ≡ 22 → CasesAre cells (Some (split.One (Both (At c.a) (At c.b)))) (rule.hypothesis_cases vars t)
  and_hypothesis k =
      let o = ands k in
      (o.left ∷ o.right ∷ [], (o.left, o.right, o.left_is, o.right_is, refl), ap (rule.form_cases vars) o.term_is)

  pub or_hypothesis : c.form ≡ 23 → CasesAre cells (Some (split.Two (Only (At c.a)) (Only (At c.b)))) (rule.hypothesis_cases vars t)
  or_hypothesis k =
      let o = ors k in
      (o.left ∷ [], o.right ∷ [], (o.left, o.left_is, refl), (o.right, o.right_is, refl), ap (rule.form_cases vars) o.term_is)

  pub implies_hypothesis : c.form ≡ 24 → CasesAre cells (Some (split.Two (Only (Not c.a)) (Only (At c.b)))) (rule.hypothesis_cases vars t)
  implies_hypothesis k =
      let o = implications k in
      (rule.not o.left ∷ [], o.right ∷ [], (rule.not o.left, (o.left, o.left_is, refl), refl), (o.right, o.right_is, refl), ap (rule.form_cases vars) o.term_is)

  pub equation_hypothesis : c.form ≡ 18 → (r : Option Cases) → ((a b : Term) → stands cells a c.a ≡ true → stands cells b c.b ≡ true → CasesAre cells r (rule.form_cases vars (Term-F.Eq a b))) → CasesAre cells r (rule.hypothesis_cases vars t)
  equation_hypothesis k r h =
      let o = equations k in
      subst (λ (x : Term-F Term). CasesAre cells r (rule.form_cases vars x)) (sym o.term_is) (h o.left o.right o.left_is o.right_is)

  pub equation_negation : c.form ≡ 18 → (r : Option Cases) → ((a b : Term) → stands cells a c.a ≡ true → stands cells b c.b ≡ true → CasesAre cells r (rule.negation_cases vars (Term-F.Eq a b))) → CasesAre cells r (rule.negation_cases vars (out-Term t))
  equation_negation k r h =
      let o = equations k in
      subst (λ (x : Term-F Term). CasesAre cells r (rule.negation_cases vars x)) (sym o.term_is) (h o.left o.right o.left_is o.right_is)

  pub and_negation : c.form ≡ 22 → CasesAre cells (Some (split.One (Only (OfNegations Form.Or c.a c.b)))) (rule.negation_cases vars (out-Term t))
  and_negation k =
      let o = ands k in
      let f = rule.or (rule.not o.left) (rule.not o.right) in
      (f ∷ [], (f, (o.left, o.right, o.left_is, o.right_is, or_over (rule.not o.left) (rule.not o.right)), refl), ap (rule.negation_cases vars) o.term_is)

  pub or_negation : c.form ≡ 23 → CasesAre cells (Some (split.One (Only (OfNegations Form.And c.a c.b)))) (rule.negation_cases vars (out-Term t))
  or_negation k =
      let o = ors k in
      let f = rule.and (rule.not o.left) (rule.not o.right) in
      (f ∷ [], (f, (o.left, o.right, o.left_is, o.right_is, and_over (rule.not o.left) (rule.not o.right)), refl), ap (rule.negation_cases vars) o.term_is)

  pub implies_negation : c.form ≡ 24 → CasesAre cells (Some (split.One (Only (AndNot c.a c.b)))) (rule.negation_cases vars (out-Term t))
  implies_negation k =
      let o = implications k in
      let f = rule.and o.left (rule.not o.right) in
      (f ∷ [], (f, (o.left, o.right, o.left_is, o.right_is, refl), refl), ap (rule.negation_cases vars) o.term_is)

  pub less_eq_negation : c.form ≡ 20 → CasesAre cells (Some (split.One (Only (Two Form.Less c.b c.a)))) (rule.negation_cases vars (out-Term t))
  less_eq_negation k =
      let o = less_eqs k in
      let f = rule.less o.right o.left in
      (f ∷ [], (f, (o.right, o.left, o.right_is, o.left_is, less_over o.right o.left), refl), ap (rule.negation_cases vars) o.term_is)

  pub less_negation : c.form ≡ 19 → CasesAre cells (Some (split.One (Only (Two Form.LessEq c.b c.a)))) (rule.negation_cases vars (out-Term t))
  less_negation k =
      let o = lesses k in
      let f = rule.less_eq o.right o.left in
      (f ∷ [], (f, (o.right, o.left, o.right_is, o.left_is, less_eq_over o.right o.left), refl), ap (rule.negation_cases vars) o.term_is)

  pub and_goal : c.form ≡ 22 → GoalCasesAre cells (Some (split.Two (Only (At c.a)) (Only (At c.b)))) (rule.goal_cases vars t)
  and_goal k =
      let o = ands k in
      (([], o.left), ([], o.right), (o.left, o.left_is, refl), (o.right, o.right_is, refl), ap (rule.form_goals vars) o.term_is)

  pub or_goal : c.form ≡ 23 → GoalCasesAre cells (Some (split.One (Both (Not c.a) (At c.b)))) (rule.goal_cases vars t)
  or_goal k =
      let o = ors k in
      ((rule.not o.left ∷ [], o.right), (rule.not o.left, o.right, (o.left, o.left_is, refl), o.right_is, refl), ap (rule.form_goals vars) o.term_is)

  pub implies_goal : c.form ≡ 24 → GoalCasesAre cells (Some (split.One (Both (At c.a) (At c.b)))) (rule.goal_cases vars t)
  implies_goal k =
      let o = implications k in
      ((o.left ∷ [], o.right), (o.left, o.right, o.left_is, o.right_is, refl), ap (rule.form_goals vars) o.term_is)

  pub equation_goal : c.form ≡ 18 → (r : Option Cases) → ((a b : Term) → stands cells a c.a ≡ true → stands cells b c.b ≡ true → GoalCasesAre cells r (rule.form_goals vars (Term-F.Eq a b))) → GoalCasesAre cells r (rule.goal_cases vars t)
  equation_goal k r h =
      let o = equations k in
      subst (λ (x : Term-F Term). GoalCasesAre cells r (rule.form_goals vars x)) (sym o.term_is) (h o.left o.right o.left_is o.right_is)

module _ (one : OneOpens) (cells : List Cell) (vars : List Sort) (t : Term) (at : ℕ) (c : Cell) (standing : stands cells t at ≡ true) (here : slice_get cells at ≡ Some c) (k : c.form ≡ 21) where
  nots : StandsOne cells t Term-F.Not c at
  nots = one Term-F.Not 21 (λ a. record { form_is = refl; own_is = refl; children_are = refl }) refl cells t at c here k standing

  pub not_hypothesis : (r : Option Cases) → ((a : Term) → stands cells a c.a ≡ true → CasesAre cells r (rule.negation_cases vars (out-Term a))) → CasesAre cells r (rule.hypothesis_cases vars t)
  not_hypothesis r h =
      let o = nots in
      subst (λ (x : Term-F Term). CasesAre cells r (rule.form_cases vars x)) (sym o.term_is) (h o.child o.child_is)

  pub not_negation : CasesAre cells (Some (split.One (Only (At c.a)))) (rule.negation_cases vars (out-Term t))
  not_negation =
      let o = nots in
      (o.child ∷ [], (o.child, o.child_is, refl), ap (rule.negation_cases vars) o.term_is)

  pub not_goal : GoalCasesAre cells (Some (split.One (Both (At c.a) (Truth false)))) (rule.goal_cases vars t)
  not_goal =
      let o = nots in
      ((o.child ∷ [], rule.truth false), (o.child, rule.truth false, o.child_is, refl, refl), ap (rule.form_goals vars) o.term_is)

-- what an equation of two that stand gives
module _ (cells : List Cell) (vars : List Sort) (p q : ℕ) (a b : Term) (left : stands cells a p ≡ true) (right : stands cells b q ≡ true) where
  pub equal_truths : rule.of_truths vars a b ≡ true → CasesAre cells (Some (split.Two (Both (At p) (At q)) (Both (Not p) (Not q)))) (rule.form_cases vars (Term-F.Eq a b))
  equal_truths e =
      (a ∷ b ∷ [], rule.not a ∷ rule.not b ∷ [], (a, b, left, right, refl), (rule.not a, rule.not b, (a, left, refl), (b, right, refl), refl), ap (λ v. if v then rule.two_cases (a ∷ b ∷ []) (rule.not a ∷ rule.not b ∷ []) else None) e)

  pub no_truths : rule.of_truths vars a b ≡ false → CasesAre cells None (rule.form_cases vars (Term-F.Eq a b))
  no_truths e = ap (λ v. if v then rule.two_cases (a ∷ b ∷ []) (rule.not a ∷ rule.not b ∷ []) else None) e

  unequal : Bool → Bool → rule.Cases
  unequal n v =
      if n then rule.two_cases (rule.less a b ∷ []) (rule.less b a ∷ []) else if v then rule.two_cases (a ∷ rule.not b ∷ []) (rule.not a ∷ b ∷ []) else None

  pub unequal_numbers : rule.of_numbers vars a b ≡ true → CasesAre cells (Some (split.Two (Only (Two Form.Less p q)) (Only (Two Form.Less q p)))) (rule.negation_cases vars (Term-F.Eq a b))
  unfolding unequal
  unequal_numbers e =
      (rule.less a b ∷ [], rule.less b a ∷ [], (rule.less a b, (a, b, left, right, less_over a b), refl), (rule.less b a, (b, a, right, left, less_over b a), refl), ap (λ n. unequal n (rule.of_truths vars a b)) e)

  pub unequal_truths : rule.of_numbers vars a b ≡ false → rule.of_truths vars a b ≡ true → CasesAre cells (Some (split.Two (Both (At p) (Not q)) (Both (Not p) (At q)))) (rule.negation_cases vars (Term-F.Eq a b))
  unfolding unequal
  unequal_truths e f =
      (a ∷ rule.not b ∷ [], rule.not a ∷ b ∷ [], (a, rule.not b, left, (b, right, refl), refl), (rule.not a, b, (a, left, refl), right, refl), (λ i. unequal (e i) (f i)))

  pub unequal_others : rule.of_numbers vars a b ≡ false → rule.of_truths vars a b ≡ false → CasesAre cells None (rule.negation_cases vars (Term-F.Eq a b))
  unfolding unequal
  unequal_others e f = (λ i. unequal (e i) (f i))

  equal : Bool → Bool → Option (List rule.GoalCase)
  equal n v = if n then rule.two_goals (rule.less_eq a b) (rule.less_eq b a) else if v then rule.two_goals (rule.implies a b) (rule.implies b a) else None

  pub equal_number_goals : rule.of_numbers vars a b ≡ true → GoalCasesAre cells (Some (split.Two (Only (Two Form.LessEq p q)) (Only (Two Form.LessEq q p)))) (rule.form_goals vars (Term-F.Eq a b))
  unfolding equal
  equal_number_goals e =
      (([], rule.less_eq a b), ([], rule.less_eq b a), (rule.less_eq a b, (a, b, left, right, less_eq_over a b), refl), (rule.less_eq b a, (b, a, right, left, less_eq_over b a), refl), ap (λ n. equal n (rule.of_truths vars a b)) e)

  pub equal_truth_goals : rule.of_numbers vars a b ≡ false → rule.of_truths vars a b ≡ true → GoalCasesAre cells (Some (split.Two (Only (Two Form.Implies p q)) (Only (Two Form.Implies q p)))) (rule.form_goals vars (Term-F.Eq a b))
  unfolding equal
  equal_truth_goals e f =
      (([], rule.implies a b), ([], rule.implies b a), (rule.implies a b, (a, b, left, right, implies_over a b), refl), (rule.implies b a, (b, a, right, left, implies_over b a), refl), (λ i. equal (e i) (f i)))

  pub equal_other_goals : rule.of_numbers vars a b ≡ false → rule.of_truths vars a b ≡ false → GoalCasesAre cells None (rule.form_goals vars (Term-F.Eq a b))
  unfolding equal
  equal_other_goals e f = (λ i. equal (e i) (f i))
