-- The rows of formulas, by their cells.
use Rattle.std.proofs.Common.{◌≡◌, ◌∙◌, sym, ap, refl, subst, ℕ, ◌+◌, ◌==◌, ◌≤◌, Bool, true, false, ◌&&◌, ◌||◌, if◌then◌else◌, ◌↔◌, List, Option, Some, None, Result, Ok, Err, slice_get, IsTrue, arith}
use Rattle.std.proofs.Math.Bool.{and_comm}
use Rattle.std.proofs.lemmas.Bool.{false≢true}
use Rattle.math_terms.specs.declared.descriptor.Sort.{Sort}
use Rattle.math_terms.specs.declared.descriptor.Sort.TheOpen.{Sort-F}
use Rattle.math_terms.specs.declared.descriptor.Sort.TheViews.{out-Sort, roll-Sort, out-roll-Sort, roll-out-Sort}
use Rattle.math_terms.specs.declared.term.Term.{Term}
use Rattle.math_terms.specs.declared.term.Term.TheOpen.{Term-F}
use Rattle.math_terms.specs.declared.term.Term.TheViews.{out-Term, out-roll-Term}
use Rattle.math_terms.specs.Heads.{form}
use Rattle.math_terms.specs.Kinds.{kind}
use Rattle.math_terms.specs.Sorts.{is_z, z, z_form}
use Rattle.math_terms.specs.Terms.{nodes}
use Rattle.term_cells.specs.declared.cell.Cell.{Cell}
use Rattle.term_cells.specs.Standing.{stands}
use Rattle.term_cells.proofs.ByForm.{its_form}
use Rattle.cell_rows.specs.declared.difference.CellRow.{CellRow}
use Rattle.cell_rows.specs.declared.difference.Short.{Short}
use Rattle.cell_rows.specs.Forms.{Mark}
use Rattle.cell_rows.proofs.Nodes.{IsTwo}
use Rattle.cell_rows.specs.RowsStand.{Row, RowOrShort, RowStands, equation_row, first_row, first_row_at, goal_row, goal_row_at, second_row, second_row_at}

-- the kind of numbers
z_is : (x : Sort-F Sort) → z_form x ≡ true → x ≡ Sort-F.Z
z_is Sort-F.Z h = refl
z_is Sort-F.B h = cc
z_is (Sort-F.Str s) h = cc
z_is (Sort-F.Tup ss) h = cc
z_is (Sort-F.Param k) h = cc
z_is Sort-F.Any h = cc

pub number_is : (r : Bool) (s : Sort) → IsTrue r ↔ (s ≡ z) → r ≡ is_z s
number_is true s h = sym (ap z_form (out-roll-Sort Sort-F.Z)) ∙ ap is_z (sym (h.0 refl))
number_is false s h = by_answer (is_z s) refl
  where
    by_answer : (b : Bool) → is_z s ≡ b → false ≡ is_z s
    by_answer false e = sym e
    by_answer true e = absurd (false≢true (h.1 (sym (roll-out-Sort s) ∙ ap roll-Sort (z_is (out-Sort s) e))))

abbrev compares : ℕ → Bool
compares k = (k == 20) || (k == 19) || (k == 18)

-- no second row, and no row of a goal
no_equation : (vars : List Sort) (x : Term-F Term) → (form x == 18) ≡ false → second_row_at vars x ≡ None
no_equation vars (Term-F.Eq x y) h = cc
no_equation vars x h = refl

no_order : (x : Term-F Term) → ((form x == 19) || (form x == 20)) ≡ false → goal_row_at x ≡ None
no_order (Term-F.Less x y) h = cc
no_order (Term-F.LessEq x y) h = cc
no_order x h = refl

no_rows : (vars : List Sort) (x : Term-F Term) → compares (form x) ≡ false → first_row_at vars x ≡ None
no_rows vars (Term-F.Eq x y) h = cc
no_rows vars (Term-F.Less x y) h = cc
no_rows vars (Term-F.LessEq x y) h = cc
no_rows vars x h = refl

module _ (cells : List Cell) (t : Term) (at : ℕ) (c : Cell) (at_is : slice_get cells at ≡ Some c) (standing : stands cells t at ≡ true) where
  pub none_at : (vars : List Sort) → (c.form == 20) ≡ false → (c.form == 19) ≡ false → (c.form == 18) ≡ false → first_row vars t ≡ None
  none_at vars f g h = no_rows vars (out-Term t) (ap compares (its_form cells t at c c.form at_is refl standing) ∙ (λ i. f i || g i || h i))

  pub no_second : (vars : List Sort) → (c.form == 18) ≡ false → second_row vars t ≡ None
  no_second vars f = no_equation vars (out-Term t) (ap (λ k. k == 18) (its_form cells t at c c.form at_is refl standing) ∙ f)

  pub no_goal : (c.form == 19) ≡ false → (c.form == 20) ≡ false → goal_row t ≡ None
  no_goal f g = no_order (out-Term t) (ap (λ k. (k == 19) || (k == 20)) (its_form cells t at c c.form at_is refl standing) ∙ (λ i. f i || g i))

pub row_widened : (cells : List Cell) (row other : Option Row) (m n : ℕ) (r : Result (Option CellRow) Short) (marks : List Mark) → row ≡ other → m ≤ n → RowOrShort cells row m r marks → RowOrShort cells other n r marks
row_widened cells row other m n (Err e) marks same l h = omega arith
row_widened cells row other m n (Ok raw) marks same l h = subst (λ x. RowStands cells x raw marks) same h

-- a row of a formula's two sides is one of the formula
pub of_sides : (cells : List Cell) (at : Term-F Term → Option Row) (t : Term) (node : Term → Term → Term-F Term) (c : Cell) (p : ℕ) (row : Option Row) (r : Result (Option CellRow) Short) (marks : List Mark) →
    (s : IsTwo cells t node c p) → row ≡ at (node s.left s.right) → (m : ℕ) → m ≤ nodes s.left + nodes s.right → RowOrShort cells row m r marks → RowOrShort cells (at (out-Term t)) (nodes t) r marks
of_sides cells at t node c p row r marks s same m few h =
    row_widened cells row (at (out-Term t)) m (nodes t) r marks (same ∙ ap at (sym (ap out-Term s.term_is ∙ out-roll-Term (node s.left s.right)))) (omega (arith, s.nodes_are)) h

pub equation_exchanged : (vars : List Sort) (a b : Term) (row : Option Row) → equation_row vars a b row ≡ equation_row vars b a row
equation_exchanged vars a b row = ap (λ (x : Bool). if x then row else None) (and_comm (is_z (kind vars a)) (is_z (kind vars b)))

pub equation_is : (vars : List Sort) (a b : Term) (row : Option Row) → (is_z (kind vars a) && is_z (kind vars b)) ≡ true → row ≡ equation_row vars a b row
equation_is vars a b row e = sym (ap (λ (x : Bool). if x then row else None) e)

pub equation_none : (vars : List Sort) (a b : Term) (row : Option Row) → (is_z (kind vars a) && is_z (kind vars b)) ≡ false → None ≡ equation_row vars a b row
equation_none vars a b row e = sym (ap (λ (x : Bool). if x then row else None) e)
