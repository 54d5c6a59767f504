-- The facts on atoms, by their cells.
use Rattle.std.proofs.Common.{◌≡◌, ◌∙◌, sym, ap, refl, subst, ℕ, zero, suc, ◌+◌, ◌==◌, ◌≤◌, ℤ, pos, negsuc, ◌≤ℤ◌, ◌<ℤ◌, Bool, true, false, ◌||◌, List, [], ◌∷◌, Some, slice_get, arith}
use lib.Signed.{lt_z}
use Rattle.std.proofs.lemmas.Int.{ints}
use Rattle.std.proofs.lemmas.Bool.{eqb-true}
use Rattle.math_terms.specs.declared.term.Term.{Term}
use Rattle.math_terms.specs.declared.term.Term.TheOpen.{Term-F}
use Rattle.math_terms.specs.declared.term.Term.TheViews.{out-Term, roll-Term, out-roll-Term}
use Rattle.math_terms.specs.Heads.{form}
use Rattle.math_terms.specs.Terms.{nodes}
use Rattle.num_theory.specs.Linear.{atom_form, constant_form, formed, is_constant, minus_one, multiple, plus, times}
use Rattle.num_theory.specs.Table.{facts_at, facts_by, facts_of, facts_over, last_of, less_eq, multiple_of, num, quotient_facts}
use Rattle.num_theory.proofs.Forming.{form_at}
use Rattle.term_cells.specs.declared.cell.Cell.{Cell}
use Rattle.term_cells.specs.Standing.{stands, stands_below}
use Rattle.term_cells.proofs.Apart.{below_parts}
use Rattle.term_cells.proofs.ByForm.{its_form, leaves_open, one_opens}
use Rattle.cell_rows.specs.working.Facts.{last_form, literal_of, lower_form, multiple_form, upper_form}
use Rattle.cell_rows.specs.RowsStand.{fact_form, fact_form_at}
use Rattle.cell_rows.proofs.Nodes.{IsTwo, other_formed, product_first, two_at}

-- the form of a fact is that of its right side minus that of its left side
less_eq_form : (a b : Term) → fact_form (less_eq a b) ≡ plus (formed b).1 (times minus_one (formed a).1)
less_eq_form a b = ap fact_form_at (out-roll-Term (Term-F.LessEq a b)) ∙ form_at (Term-F.Sub b a) (roll-Term (Term-F.Sub b a)) refl

number_form : (n : ℤ) → (formed (num n)).1 ≡ constant_form n
number_form n = form_at (Term-F.Num n) (num n) refl

module _ (q : Term) (atom : (formed q).1 ≡ atom_form q) where
  pub length_form : fact_form (less_eq (num (pos 0)) q) ≡ atom_form q
  length_form = less_eq_form (num (pos 0)) q ∙ (λ i. plus (atom i) (times minus_one (number_form (pos 0) i)))

  multiple_is : (n : ℤ) → (formed (multiple_of n q)).1 ≡ multiple_form n q
  multiple_is n =
      form_at (Term-F.Mul (num n) q) (multiple_of n q) refl
      ∙ product_first (formed (num n)) (formed q) (ap is_constant atom) (ap is_constant (number_form n))
      ∙ (λ i. multiple (number_form n i) (atom i))

  pub lower_is : (n : ℤ) (t : Term) → fact_form (less_eq (multiple_of n q) t) ≡ lower_form n q t
  lower_is n t = less_eq_form (multiple_of n q) t ∙ (λ i. plus (formed t).1 (times minus_one (multiple_is n i)))

  past_is : (n : ℤ) → (formed (roll-Term (Term-F.Add (multiple_of n q) (num n)))).1 ≡ plus (multiple_form n q) (constant_form n)
  past_is n =
      form_at (Term-F.Add (multiple_of n q) (num n)) (roll-Term (Term-F.Add (multiple_of n q) (num n))) refl
      ∙ (λ i. plus (multiple_is n i) (number_form n i))

  last_is : (n : ℤ) → (formed (last_of n q)).1 ≡ last_form n q
  last_is n =
      form_at (Term-F.Sub (roll-Term (Term-F.Add (multiple_of n q) (num n))) (num (pos 1))) (last_of n q) refl
      ∙ (λ i. plus (past_is n i) (times minus_one (number_form (pos 1) i)))

  pub upper_is : (n : ℤ) (t : Term) → fact_form (less_eq t (last_of n q)) ≡ upper_form n q t
  upper_is n t = less_eq_form t (last_of n q) ∙ (λ i. plus (last_is n i) (times minus_one (formed t).1))

pub over_literal : (atom t : Term) (x : Term-F Term) → facts_over atom t x ≡ facts_by atom t (literal_of x)
over_literal atom t (Term-F.Num n) = refl
over_literal atom t x = refl

no_literal : (x : Term-F Term) → (form x == 0) ≡ false → literal_of x ≡ pos 0
no_literal (Term-F.Num n) h = cc
no_literal x h = refl

no_facts_at : (atom : Term) (x : Term-F Term) → ((form x == 10) || (form x == 8)) ≡ false → facts_at atom x ≡ []
no_facts_at atom (Term-F.Div x y) h = cc
no_facts_at atom (Term-F.Len x) h = cc
no_facts_at atom x h = refl

pub facts_high : (atom t : Term) (n : ℤ) → pos 0 <ℤ n → facts_by atom t n ≡ quotient_facts n atom t
facts_high atom t (pos zero) h = absurd (omega (arith, ints))
facts_high atom t (pos (suc n)) h = refl
facts_high atom t (negsuc n) h = absurd (omega (arith, ints))

pub facts_low : (atom t : Term) (n : ℤ) → n ≤ℤ pos 0 → facts_by atom t n ≡ []
facts_low atom t (pos zero) h = refl
facts_low atom t (pos (suc n)) h = absurd (omega (arith, ints))
facts_low atom t (negsuc n) h = refl

pub high_from : (n m : ℤ) → n ≡ m → lt_z (pos 0) n ≡ true → pos 0 <ℤ m
high_from n m e h =
    let t : lt_z (pos 0) m ≡ true = ap (lt_z (pos 0)) (sym e) ∙ h in
    omega (arith, ints)

pub low_from : (n m : ℤ) → n ≡ m → lt_z (pos 0) n ≡ false → m ≤ℤ pos 0
low_from n m e h =
    let t : lt_z (pos 0) m ≡ false = ap (lt_z (pos 0)) (sym e) ∙ h in
    omega (arith, ints)

pub only_one : {A : Type 0} (x y : A) (k : ℕ) → slice_get (x ∷ []) k ≡ Some y → x ≡ y
only_one x y zero e = cc
only_one x y (suc k) e = cc

-- one of the two facts on a quotient
pub record IsOfQuotient (cells : List Cell) (t : Term) (c : Cell) (at : ℕ) (n : ℤ) (k : ℕ) (f : Term) : Type 0 where
  pub divided : Term
  pub below : stands_below (stands cells divided) c.a at ≡ true
  pub nodes_are : nodes divided + 1 ≤ nodes t
  pub first : k ≡ 0 → fact_form f ≡ lower_form n t divided
  pub second : (k ≡ 0 → ⊥) → fact_form f ≡ upper_form n t divided

module _ (cells : List Cell) (t : Term) (at : ℕ) (c : Cell) (at_is : slice_get cells at ≡ Some c) (standing : stands cells t at ≡ true) where
  pub literal_is : (c.form == 0) ≡ false → literal_of (out-Term t) ≡ pos 0
  literal_is h = no_literal (out-Term t) (ap (λ k. k == 0) (its_form cells t at c c.form at_is refl standing) ∙ h)

  pub number_is : c.form ≡ 0 → literal_of (out-Term t) ≡ c.own
  number_is e = ap literal_of (leaves_open.num cells t at c at_is e standing)

  pub len_facts : c.form ≡ 10 → facts_of t ≡ less_eq (num (pos 0)) t ∷ []
  len_facts e =
      let s = one_opens Term-F.Len 10 (λ a. record { form_is = refl; own_is = refl; children_are = refl }) refl cells t at c at_is e standing in
      ap (facts_at t) s.term_is

  pub no_facts : (c.form == 10) ≡ false → (c.form == 8) ≡ false → facts_of t ≡ []
  no_facts f g = no_facts_at t (out-Term t) (ap (λ k. (k == 10) || (k == 8)) (its_form cells t at c c.form at_is refl standing) ∙ (λ i. f i || g i))

  pub its_quotient : c.form ≡ 8 → IsTwo cells t Term-F.Div c at
  its_quotient e = two_at Term-F.Div 8 (λ a b. record { form_is = refl; own_is = refl; children_are = refl }) refl cells t at c at_is e standing

  pub div_facts : (s : IsTwo cells t Term-F.Div c at) → facts_of t ≡ facts_by t s.left (literal_of (out-Term s.right))
  div_facts s = ap (facts_at t) (ap out-Term s.term_is ∙ out-roll-Term (Term-F.Div s.left s.right)) ∙ over_literal t s.left (out-Term s.right)

  pub atom_by : (k : ℕ) → c.form ≡ k → (k == 0) ≡ false → (k == 5) ≡ false → (k == 6) ≡ false → (k == 7) ≡ false → (k == 9) ≡ false → (formed t).1 ≡ atom_form t
  atom_by k e f g h i j =
      other_formed cells t at c at_is standing (ap (λ n. n == 0) e ∙ f) (ap (λ n. n == 5) e ∙ g) (ap (λ n. n == 6) e ∙ h) (ap (λ n. n == 7) e ∙ i) (ap (λ n. n == 9) e ∙ j)

  module _ (n : ℤ) (k : ℕ) (f : Term) where
    of_two : (c.form ≡ 8) → (s : IsTwo cells t Term-F.Div c at) → slice_get (facts_by t s.left n) k ≡ Some f → IsOfQuotient cells t c at n k f
    of_two e s is = by_sign n refl is
      where
        some_nodes : nodes s.left + 1 ≤ nodes t
        some_nodes = omega (arith, s.nodes_are)

        two_facts : (m : ℕ) (k : ℕ) → slice_get (quotient_facts (pos (suc m)) t s.left) k ≡ Some f → IsOfQuotient cells t c at (pos (suc m)) k f
        two_facts m zero g =
            let same : less_eq (multiple_of (pos (suc m)) t) s.left ≡ f = cc in
            record {
              divided = s.left;
              below = s.left_is;
              nodes_are = some_nodes;
              first = λ z. ap fact_form (sym same) ∙ lower_is t (atom_by 8 e refl refl refl refl refl) (pos (suc m)) s.left;
              second = λ z. absurd (z refl);
            }
        two_facts m (suc zero) g =
            let same : less_eq s.left (last_of (pos (suc m)) t) ≡ f = cc in
            record {
              divided = s.left;
              below = s.left_is;
              nodes_are = some_nodes;
              first = λ z. absurd (omega arith);
              second = λ z. ap fact_form (sym same) ∙ upper_is t (atom_by 8 e refl refl refl refl refl) (pos (suc m)) s.left;
            }
        two_facts m (suc (suc k)) g = cc

        by_sign : (m : ℤ) → n ≡ m → slice_get (facts_by t s.left n) k ≡ Some f → IsOfQuotient cells t c at n k f
        by_sign (pos zero) same g =
            let none : slice_get [] k ≡ Some f = subst (λ (x : ℤ). slice_get (facts_by t s.left x) k ≡ Some f) same g in
            cc
        by_sign (pos (suc m)) same g = subst (λ (x : ℤ). IsOfQuotient cells t c at x k f) (sym same) (two_facts m k (subst (λ (x : ℤ). slice_get (facts_by t s.left x) k ≡ Some f) same g))
        by_sign (negsuc m) same g =
            let none : slice_get [] k ≡ Some f = subst (λ (x : ℤ). slice_get (facts_by t s.left x) k ≡ Some f) same g in
            cc

    pub of_quotient : (c.form == 10) ≡ false → ((u : Term) → stands cells u c.b ≡ true → n ≡ literal_of (out-Term u)) → slice_get (facts_of t) k ≡ Some f → IsOfQuotient cells t c at n k f
    of_quotient other number is = by_form (c.form == 8) refl
      where
        by_form : (b : Bool) → (c.form == 8) ≡ b → IsOfQuotient cells t c at n k f
        by_form false e =
            let none : slice_get [] k ≡ Some f = ap (λ fs. slice_get fs k) (sym (no_facts other e)) ∙ is in
            cc
        by_form true e =
            let eight : c.form ≡ 8 = eqb-true c.form 8 e in
            let s = its_quotient eight in
            let right = below_parts (stands cells s.right) c.b at s.right_is in
            of_two eight s (ap (λ m. slice_get (facts_by t s.left m) k) (number s.right right.1) ∙ ap (λ fs. slice_get fs k) (sym (div_facts s)) ∙ is)
