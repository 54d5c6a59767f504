-- Rows whose atoms stand in cells.
use Rattle.std.specs.Prelude.{◌≡◌, ℕ, ◌<◌, ℤ, pos, negsuc, ◌+ℤ◌, Bool, ◌&&◌, List, take, length, Option, Some, None, Result, Ok, Err, if◌then◌else◌}
use Rattle.std.specs.List.{list_all}
use Rattle.math_terms.specs.declared.descriptor.Sort.{Sort}
use Rattle.math_terms.specs.declared.term.Term.{Term}
use Rattle.math_terms.specs.declared.term.Term.TheOpen.{Term-F}
use Rattle.math_terms.specs.declared.term.Term.TheViews.{roll-Term, out-Term}
use Rattle.math_terms.specs.Kinds.{kind}
use Rattle.math_terms.specs.Sorts.{is_z}
use Rattle.num_theory.specs.declared.number.Number.TheVariants.{Exact}
use Rattle.num_theory.specs.Lines.{narrow}
use Rattle.num_theory.specs.Linear.{Form, Product, constant_form, formed, linear_of, shown_form}
use Rattle.term_cells.specs.declared.cell.Cell.{Cell}
use Rattle.cell_rows.specs.declared.difference.CellRow.{CellRow}
use Rattle.cell_rows.specs.declared.difference.Short.{Short}
use Rattle.cell_rows.specs.Forms.{Mark, ProductsStand}

-- the products and the constant of a row
abbrev pub Row : Type 0
Row = List Product × ℤ

-- the coefficients have magnitudes below 2 ^ 31
abbrev pub are_narrow : List Product → Bool
are_narrow ps = list_all (λ p. narrow p.0) ps

-- the row of a form with a number added to its constant, where there is one and its constant is narrow
abbrev pub shifted : ℤ → Option Row → Option Row
shifted shift None = None
shifted shift (Some f) = if narrow (f.1 +ℤ shift) then Some (f.0, f.1 +ℤ shift) else None

-- the row of `left <= right`, and with -1 that of `left < right`
abbrev pub difference_row : ℤ → Term → Term → Option Row
difference_row shift left right = shifted shift (linear_of (roll-Term (Term-F.Sub right left)))

abbrev pub equation_row : List Sort → Term → Term → Option Row → Option Row
equation_row vars a b row = if is_z (kind vars a) && is_z (kind vars b) then row else None

-- the first row of a formula, and the second, which equations have
abbrev pub first_row_at : List Sort → Term-F Term → Option Row
first_row_at vars (Term-F.LessEq a b) = difference_row (pos 0) a b
first_row_at vars (Term-F.Less a b) = difference_row (negsuc 0) a b
first_row_at vars (Term-F.Eq a b) = equation_row vars a b (difference_row (pos 0) a b)
first_row_at vars x = None

abbrev pub first_row : List Sort → Term → Option Row
first_row vars f = first_row_at vars (out-Term f)

abbrev pub second_row_at : List Sort → Term-F Term → Option Row
second_row_at vars (Term-F.Eq a b) = equation_row vars a b (difference_row (pos 0) b a)
second_row_at vars x = None

abbrev pub second_row : List Sort → Term → Option Row
second_row vars f = second_row_at vars (out-Term f)

-- the row of a goal's negation
abbrev pub goal_row_at : Term-F Term → Option Row
goal_row_at (Term-F.Less a b) = difference_row (pos 0) b a
goal_row_at (Term-F.LessEq a b) = difference_row (negsuc 0) b a
goal_row_at x = None

abbrev pub goal_row : Term → Option Row
goal_row f = goal_row_at (out-Term f)

-- the form of a fact `left <= right`, and its row
abbrev pub fact_form_at : Term-F Term → Form
fact_form_at (Term-F.LessEq a b) = (formed (roll-Term (Term-F.Sub b a))).1
fact_form_at x = constant_form (pos 0)

abbrev pub fact_form : Term → Form
fact_form f = fact_form_at (out-Term f)

abbrev pub fact_row : Term → Option Row
fact_row f = shifted (pos 0) (shown_form (fact_form f))

-- the row has its products at the head of the marks, or there is none
abbrev pub RowStands : List Cell → Option Row → Option CellRow → List Mark → Type 0
RowStands cells None None marks = Unit {0}
RowStands cells None (Some raw) marks = ⊥
RowStands cells (Some row) None marks = ⊥
RowStands cells (Some row) (Some raw) marks = ProductsStand cells row.0 (take raw.count marks) × (raw.constant ≡ Exact row.1)

-- a row that there is room for, or fewer marks than so many
abbrev pub RowOrShort : List Cell → Option Row → ℕ → Result (Option CellRow) Short → List Mark → Type 0
RowOrShort cells row most (Err e) marks = length marks < most
RowOrShort cells row most (Ok raw) marks = RowStands cells row raw marks
