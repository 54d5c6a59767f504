-- The row of a form.
use Rattle.std.proofs.Common.{◌≡◌, ◌∙◌, sym, ap, refl, subst, ℤ, ◌+ℤ◌, Bool, true, false, List, take, Some, None, if◌then◌else◌, arith}
use Rattle.std.proofs.lemmas.Bool.{false≢true}
use Rattle.num_theory.specs.declared.number.Number.TheVariants.{Exact, Lost}
use Rattle.num_theory.specs.Linear.{Form, shown, shown_form}
use Rattle.num_theory.specs.working.Making.{IsWellMade}
use Rattle.num_theory.specs.Number.{exact, fits, is_narrow, kept, sum}
use Rattle.num_theory.specs.Rows.{narrow}
use Rattle.num_theory.proofs.Integers.{fits_within, narrow_magnitude}
use Rattle.term_cells.specs.declared.cell.Cell.{Cell}
use Rattle.cell_rows.specs.declared.difference.CellRow.{CellRow}
use Rattle.cell_rows.specs.Forms.{Mark, ProductsStand}
use Rattle.cell_rows.specs.RowsStand.{RowStands, shifted}
use Rattle.cell_rows.proofs.Ordering.{narrow_exact}

-- an integer that is kept is narrow where the integer is
kept_narrow : (z : ℤ) → narrow z ≡ true → kept z ≡ Exact z
kept_narrow z h = ap (λ (b : Bool). if b then Exact z else Lost) (fits_within z (omega (arith, narrow_magnitude z h)))

narrow_kept : (z : ℤ) → is_narrow (kept z) ≡ narrow z
narrow_kept z = by_test (fits z) (narrow z) refl refl
  where
    by_test : (b n : Bool) → fits z ≡ b → narrow z ≡ n → is_narrow (if b then Exact z else Lost) ≡ narrow z
    by_test true n e f = refl
    by_test false true e f = absurd (false≢true (sym e ∙ fits_within z (omega (arith, narrow_magnitude z f))))
    by_test false false e f = sym f

module _ (cells : List Cell) (f : Form) (well : IsWellMade f) (shift : ℤ) (marks : List Mark) where
  sum_is : f.is_narrow ≡ true → sum f.constant (Exact shift) ≡ kept (exact f.constant +ℤ shift)
  sum_is e = ap (λ n. sum n (Exact shift)) (narrow_exact f.constant (well e).1)

  shifted_is : f.is_narrow ≡ true → shifted shift (shown_form f) ≡ (if narrow (exact f.constant +ℤ shift) then Some (shown f.products, exact f.constant +ℤ shift) else None)
  shifted_is e = ap (λ (b : Bool). shifted shift (if b then Some (shown f.products, exact f.constant) else None)) e

  pub no_shifted : f.is_narrow ≡ false → RowStands cells (shifted shift (shown_form f)) None marks
  no_shifted e = subst (λ r. RowStands cells r None marks) (sym (ap (λ (b : Bool). shifted shift (if b then Some (shown f.products, exact f.constant) else None)) e)) tt

  pub wide_shifted : f.is_narrow ≡ true → is_narrow (sum f.constant (Exact shift)) ≡ false → RowStands cells (shifted shift (shown_form f)) None marks
  wide_shifted e wide =
      let z = exact f.constant +ℤ shift in
      let test : narrow z ≡ false = sym (narrow_kept z) ∙ ap is_narrow (sym (sum_is e)) ∙ wide in
      subst (λ r. RowStands cells r None marks) (sym (shifted_is e ∙ ap (λ (b : Bool). if b then Some (shown f.products, z) else None) test)) tt

  pub row_shifted : (raw : CellRow) → f.is_narrow ≡ true → is_narrow (sum f.constant (Exact shift)) ≡ true → raw.constant ≡ sum f.constant (Exact shift) → ProductsStand cells (shown f.products) (take raw.count marks) →
      RowStands cells (shifted shift (shown_form f)) (Some raw) marks
  row_shifted raw e small constant stand =
      let z = exact f.constant +ℤ shift in
      let test : narrow z ≡ true = sym (narrow_kept z) ∙ ap is_narrow (sym (sum_is e)) ∙ small in
      subst (λ r. RowStands cells r (Some raw) marks) (sym (shifted_is e ∙ ap (λ (b : Bool). if b then Some (shown f.products, z) else None) test))
      (stand, constant ∙ sum_is e ∙ kept_narrow z test)
