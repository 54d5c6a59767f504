-- Forms whose atoms stand in cells.
use Rattle.std.specs.Prelude.{◌≡◌, ℕ, ◌<◌, ◌≤◌, true, List, [], ◌∷◌, length, take, Option, Some, None}
use Rattle.math_terms.specs.declared.term.Term.{Term}
use Rattle.num_theory.specs.declared.number.Number.{Number}
use Rattle.num_theory.specs.declared.number.Number.TheVariants.{Exact}
use Rattle.num_theory.specs.Linear.{Form, Product, RawProduct}
use Rattle.num_theory.specs.Number.{product}
use Rattle.term_cells.specs.declared.cell.Cell.{Cell}
use Rattle.term_cells.specs.Standing.{stands}
use Rattle.cell_rows.specs.declared.forms.CellForm.{CellForm}

-- a coefficient and the place of its atom
abbrev pub Mark : Type 0
Mark = Number × ℕ

-- each product has its coefficient as a number, and its atom stands at its place
abbrev pub StandAs : {C : Type 0} → (C → Number) → List Cell → List (C × Term) → List Mark → Type 0
StandAs number cells [] [] = Unit {0}
StandAs number cells [] (m ∷ ms) = ⊥
StandAs number cells (p ∷ ps) [] = ⊥
StandAs number cells (p ∷ ps) (m ∷ ms) = (m.0 ≡ number p.0) × (stands cells p.1 m.1 ≡ true) × StandAs number cells ps ms

-- so it is with products whose coefficient may be lost, and with those of rows
abbrev pub RawStand : List Cell → List RawProduct → List Mark → Type 0
RawStand cells ps ms = StandAs (λ n. n) cells ps ms

abbrev pub ProductsStand : List Cell → List Product → List Mark → Type 0
ProductsStand cells ps ms = StandAs Exact cells ps ms

abbrev pub scaled_mark : Number → Mark → Mark
scaled_mark k m = (product k m.0, m.1)

-- The form has its products at the head of the marks, at most so many.
pub record FormStands (cells : List Cell) (f : Form) (most : ℕ) (raw : CellForm) (marks : List Mark) : Type 0 where
  pub products_stand : RawStand cells f.products (take raw.count marks)
  pub constant_is : raw.constant ≡ f.constant
  pub narrow_is : raw.is_narrow ≡ f.is_narrow
  pub few : raw.count ≤ most

-- a form that there is room for, or fewer marks than so many
abbrev pub FormOrShort : List Cell → Form → ℕ → Option CellForm → List Mark → Type 0
FormOrShort cells f most None marks = length marks < most
FormOrShort cells f most (Some raw) marks = FormStands cells f most raw marks
