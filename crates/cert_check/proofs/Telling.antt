-- The tests of formulas, told by the cells in which they stand.
use Rattle.std.proofs.Common.{◌≡◌, ◌∙◌, sym, ap, refl, ℕ, suc, zero, ◌==◌, pos, Bool, true, false, not, ◌↔◌, List, [], ◌∷◌, Option, Some, None, slice_get, IsTrue}
use Rattle.std.proofs.lemmas.Bool.{eqb-false, eqb-true}
use Rattle.std.proofs.lemmas.Option.{same_Some}
use Rattle.std.specs.Ordering.{int_eq}
use Rattle.math_terms.specs.declared.term.Term.{Term}
use Rattle.math_terms.specs.declared.term.Term.TheOpen.{Term-F}
use Rattle.math_terms.specs.declared.term.Term.TheViews.{out-Term}
use Rattle.math_terms.specs.Heads.{form, same_term}
use Rattle.math_terms.specs.Laws.{SameTermsAreEqual}
use Rattle.term_cells.specs.declared.cell.Cell.{Cell}
use Rattle.term_cells.specs.Standing.{stands}
use Rattle.term_cells.specs.Laws.{LeavesOpen, OneOpens, StandingOpens, TwoOpens}
use Rattle.cert_check.specs.Legality.{clash, false_form, identity_form, is_false, is_identity, is_negation_of, is_true, negation_form, passes, true_form}
use Rattle.term_cells.specs.Placed.{AllStand}
use Rattle.cert_check.specs.working.Path.{named}

true_form_other : (x : Term-F Term) → (form x ≡ 1 → ⊥) → true_form x ≡ false
true_form_other (Term-F.Truth b) h = absurd (h refl)
true_form_other x h = refl

false_form_other : (x : Term-F Term) → (form x ≡ 1 → ⊥) → false_form x ≡ false
false_form_other (Term-F.Truth b) h = absurd (h refl)
false_form_other x h = refl

false_form_truth : (b : Bool) → false_form (Term-F.Truth b) ≡ not b
false_form_truth true = refl
false_form_truth false = refl

identity_form_other : (x : Term-F Term) → (form x ≡ 18 → ⊥) → identity_form x ≡ false
identity_form_other (Term-F.Eq a b) h = absurd (h refl)
identity_form_other x h = refl

negation_form_other : (f : Term) (x : Term-F Term) → (form x ≡ 21 → ⊥) → negation_form f x ≡ false
negation_form_other f (Term-F.Not a) h = absurd (h refl)
negation_form_other f x h = refl

same_Bool : (a b : Bool) → (a ≡ true → b ≡ true) → (b ≡ true → a ≡ true) → a ≡ b
same_Bool true b f g = sym (f refl)
same_Bool false true f g = g refl
same_Bool false false f g = refl

-- an answer that says whether two terms are equal is that of the test of sameness
pub same_told : SameTermsAreEqual → (t u : Term) (answer : Bool) → (IsTrue answer ↔ (t ≡ u)) → answer ≡ same_term t u
same_told law t u answer h = same_Bool answer (same_term t u) (λ e. (law t u).1 (h.0 e)) (λ e. h.1 ((law t u).0 e))

module _ (opens : StandingOpens) (cells : List Cell) (t : Term) (at : ℕ) (standing : stands cells t at ≡ true) where
  pub not_nowhere : slice_get cells at ≡ None → ⊥
  not_nowhere e = let o = opens cells t at standing in let clash : Some o.0 ≡ None = sym o.1 ∙ e in cc

  pub form_told : (c : Cell) → slice_get cells at ≡ Some c → form (out-Term t) ≡ c.form
  form_told c here =
      let o = opens cells t at standing in
      let same : o.0 ≡ c = same_Some o.0 c (sym o.1 ∙ here) in
      o.2.form_is ∙ ap (λ (d : Cell). d.form) same

  other_form : (c : Cell) (k : ℕ) → slice_get cells at ≡ Some c → false ≡ (c.form == k) → form (out-Term t) ≡ k → ⊥
  other_form c k here h e = eqb-false c.form k (sym h) (sym (form_told c here) ∙ e)

  pub not_true : (c : Cell) → slice_get cells at ≡ Some c → false ≡ (c.form == 1) → is_true t ≡ false
  not_true c here h = true_form_other (out-Term t) (other_form c 1 here h)

  pub not_false : (c : Cell) → slice_get cells at ≡ Some c → false ≡ (c.form == 1) → is_false t ≡ false
  not_false c here h = false_form_other (out-Term t) (other_form c 1 here h)

  pub not_identity : (c : Cell) → slice_get cells at ≡ Some c → false ≡ (c.form == 18) → is_identity t ≡ false
  not_identity c here h = identity_form_other (out-Term t) (other_form c 18 here h)

  pub not_negation : (f : Term) (c : Cell) → slice_get cells at ≡ Some c → false ≡ (c.form == 21) → is_negation_of f t ≡ false
  not_negation f c here h = negation_form_other f (out-Term t) (other_form c 21 here h)

  pub true_told : LeavesOpen → (c : Cell) → slice_get cells at ≡ Some c → true ≡ (c.form == 1) → is_true t ≡ int_eq c.own (pos 1)
  true_told leaves c here k = ap true_form (leaves.truth cells t at c here (eqb-true c.form 1 (sym k)) standing)

  pub false_told : LeavesOpen → (c : Cell) → slice_get cells at ≡ Some c → true ≡ (c.form == 1) → is_false t ≡ not (int_eq c.own (pos 1))
  false_told leaves c here k = ap false_form (leaves.truth cells t at c here (eqb-true c.form 1 (sym k)) standing) ∙ false_form_truth (int_eq c.own (pos 1))

  pub identity_told : TwoOpens → SameTermsAreEqual → (c : Cell) → slice_get cells at ≡ Some c → true ≡ (c.form == 18) → (answer : Bool) →
      ((u v : Term) → stands cells u c.a ≡ true → stands cells v c.b ≡ true → (IsTrue answer ↔ (u ≡ v))) → answer ≡ is_identity t
  identity_told two law c here k answer h =
      let o = two Term-F.Eq 18 (λ a b. record { form_is = refl; own_is = refl; children_are = refl }) refl cells t at c here (eqb-true c.form 18 (sym k)) standing in
      same_told law o.left o.right answer (h o.left o.right o.left_is o.right_is) ∙ sym (ap identity_form o.term_is)

  pub negation_told : OneOpens → SameTermsAreEqual → (f : Term) (c : Cell) → slice_get cells at ≡ Some c → true ≡ (c.form == 21) → (answer : Bool) →
      ((u : Term) → stands cells u c.a ≡ true → (IsTrue answer ↔ (f ≡ u))) → answer ≡ is_negation_of f t
  negation_told one law f c here k answer h =
      let o = one Term-F.Not 21 (λ a. record { form_is = refl; own_is = refl; children_are = refl }) refl cells t at c here (eqb-true c.form 21 (sym k)) standing in
      same_told law f o.child answer (h o.child o.child_is) ∙ sym (ap (negation_form f) o.term_is)

-- the term of a place among places
pub term_at : (cells : List Cell) (ts : List Term) (ps : List ℕ) → AllStand cells ts ps → (i p : ℕ) → slice_get ps i ≡ Some p → (t : Term) × (slice_get ts i ≡ Some t) × (stands cells t p ≡ true)
term_at cells [] [] h i p e = cc
term_at cells [] (q ∷ qs) h i p e = absurd h
term_at cells (t ∷ ts) [] h i p e = cc
term_at cells (t ∷ ts) (q ∷ qs) h zero p e = (t, refl, ap (stands cells t) (sym (same_Some q p e)) ∙ h.0)
term_at cells (t ∷ ts) (q ∷ qs) h (suc i) p e = term_at cells ts qs h.1 i p e

pub none_at : (cells : List Cell) (ts : List Term) (ps : List ℕ) → AllStand cells ts ps → (i : ℕ) → slice_get ps i ≡ None → slice_get ts i ≡ None
none_at cells [] [] h i e = refl
none_at cells [] (q ∷ qs) h i e = absurd h
none_at cells (t ∷ ts) [] h i e = absurd h
none_at cells (t ∷ ts) (q ∷ qs) h zero e = cc
none_at cells (t ∷ ts) (q ∷ qs) h (suc i) e = none_at cells ts qs h.1 i e

pub named_at : (cells : List Cell) (ts : List Term) (ps : List ℕ) → AllStand cells ts ps → (k p : ℕ) → named ps k ≡ Some p → (t : Term) × (named ts k ≡ Some t) × (stands cells t p ≡ true)
named_at cells ts ps h zero p e = cc
named_at cells ts ps h (suc k) p e = term_at cells ts ps h k p e

pub unnamed_at : (cells : List Cell) (ts : List Term) (ps : List ℕ) → AllStand cells ts ps → (k : ℕ) → named ps k ≡ None → named ts k ≡ None
unnamed_at cells ts ps h zero e = refl
unnamed_at cells ts ps h (suc k) e = none_at cells ts ps h k e

clash_none : (o : Option Term) → false ≡ clash o None
clash_none None = refl
clash_none (Some f) = refl

module _ (cells : List Cell) (fs : List Term) (ps : List ℕ) (all : AllStand cells fs ps) where
  pub passes_none : (test : Term → Bool) (k : ℕ) → named ps k ≡ None → false ≡ passes test (named fs k)
  passes_none test k e = ap (passes test) (sym (unnamed_at cells fs ps all k e))

  pub hyp_told : SameTermsAreEqual → (k p : ℕ) → named ps k ≡ Some p → (g : Term) (goal : ℕ) → stands cells g goal ≡ true → (answer : Bool) →
      ((t u : Term) → stands cells t goal ≡ true → stands cells u p ≡ true → (IsTrue answer ↔ (t ≡ u))) → answer ≡ passes (same_term g) (named fs k)
  hyp_told law k p e g goal standing answer h =
      let f = named_at cells fs ps all k p e in
      same_told law g f.0 answer (h g f.0 standing f.2) ∙ ap (passes (same_term g)) (sym f.1)

  pub absurd_told : (k p : ℕ) → named ps k ≡ Some p → (answer : Bool) → ((t : Term) → stands cells t p ≡ true → answer ≡ is_false t) → answer ≡ passes is_false (named fs k)
  absurd_told k p e answer h =
      let f = named_at cells fs ps all k p e in
      h f.0 f.2 ∙ ap (passes is_false) (sym f.1)

  pub clash_told : (k p l q : ℕ) → named ps k ≡ Some p → named ps l ≡ Some q → (answer : Bool) →
      ((f : Term) → stands cells f p ≡ true → (g : Term) → stands cells g q ≡ true → answer ≡ is_negation_of f g) → answer ≡ clash (named fs k) (named fs l)
  clash_told k p l q e d answer h =
      let f = named_at cells fs ps all k p e in
      let g = named_at cells fs ps all l q d in
      h f.0 f.2 g.0 g.2 ∙ (λ i. clash (sym f.1 i) (sym g.1 i))

  pub no_first : (k l : ℕ) → named ps k ≡ None → false ≡ clash (named fs k) (named fs l)
  no_first k l e = ap (λ o. clash o (named fs l)) (sym (unnamed_at cells fs ps all k e))

  pub no_second : (k l : ℕ) → named ps l ≡ None → false ≡ clash (named fs k) (named fs l)
  no_second k l e = clash_none (named fs k) ∙ ap (clash (named fs k)) (sym (unnamed_at cells fs ps all l e))
