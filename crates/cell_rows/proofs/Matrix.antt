-- Rows of numbers by columns.
use Rattle.std.proofs.Common.{◌≡◌, ◌∙◌, sym, ap, refl, subst, ℕ, suc, ◌<◌, ℤ, Bool, true, false, List, [], ◌∷◌, length, get_or, set, take, Option, Some, None, option_and_then, Result, Ok, Err, OnErr, if◌then◌else◌, arith}
use Rattle.std.proofs.lemmas.Bool.{and_parts}
use Rattle.math_terms.specs.declared.name.RowName.{RowName}
use Rattle.math_terms.specs.declared.term.Term.{Term}
use Rattle.math_terms.specs.Heads.{same_term}
use Rattle.num_theory.specs.Lines.{narrow}
use Rattle.num_theory.specs.declared.number.Number.TheVariants.{Exact}
use Rattle.num_theory.specs.Linear.{Product}
use Rattle.num_theory.specs.Naming.{find_row, find_rows}
use Rattle.num_theory.specs.Table.{Sum, coefficient}
use Rattle.term_cells.specs.declared.cell.Cell.{Cell}
use Rattle.cell_rows.specs.declared.difference.CellRow.{CellRow}
use Rattle.cell_rows.specs.working.Finding.{unnamed}
use Rattle.cell_rows.specs.Forms.{Mark, ProductsStand}
use Rattle.cell_rows.specs.RowsStand.{RowStands, are_narrow}
use Rattle.cell_rows.proofs.Marks.{same_is}
use Rattle.cell_rows.proofs.Places.{FirstProduct}

-- the coefficient of the first product
pub first_coefficient : (cells : List Cell) (ps : List Product) (ms : List Mark) (d : Mark) (f : FirstProduct cells ps ms d) → ProductsStand cells ps ms → 0 < length ms → (get_or ms 0 d).0 ≡ Exact f.first.0
first_coefficient cells ps [] d f h l = absurd (omega arith)
first_coefficient cells [] (m ∷ ms) d f h l = absurd h
first_coefficient cells (p ∷ ps) (m ∷ ms) d f h l =
    let rest : p ∷ ps ≡ f.first ∷ f.rest = f.same in
    let same : p ≡ f.first = cc in
    h.0 ∙ ap (λ (q : Product). Exact q.0) same

module _ (cells : List Cell) (t : Term) (ps : List Product) (ms : List Mark) (d : Mark) (f : FirstProduct cells ps ms d) (b : Bool) (same : (b ≡ true → t ≡ f.first.1) × (t ≡ f.first.1 → b ≡ true)) where
  pub coefficient_here : b ≡ true → coefficient t ps ≡ f.first.0
  coefficient_here is = ap (coefficient t) f.same ∙ ap (λ (s : Bool). if s then f.first.0 else coefficient t f.rest) (sym (same_is cells b t f.first.1 same) ∙ is)

  pub coefficient_later : b ≡ false → coefficient t ps ≡ coefficient t f.rest
  coefficient_later is = ap (coefficient t) f.same ∙ ap (λ (s : Bool). if s then f.first.0 else coefficient t f.rest) (sym (same_is cells b t f.first.1 same) ∙ is)

-- named rows, one after another
pub record FirstNamed (n : ℕ) (sums : List Sum) (name : RowName) (names : List RowName) (named : List Sum) : Type 0 where
  pub first : Sum
  pub rest : List Sum
  pub first_is : find_row n name sums ≡ Some first
  pub rest_is : find_rows n sums names ≡ Some rest
  pub same : named ≡ first ∷ rest

pub first_named : (n : ℕ) (sums : List Sum) (name : RowName) (names : List RowName) (named : List Sum) → find_rows n sums (name ∷ names) ≡ Some named → FirstNamed n sums name names named
first_named n sums name names named e = parts (find_row n name sums) (find_rows n sums names) refl refl e
  where
    parts : (o : Option Sum) (p : Option (List Sum)) → find_row n name sums ≡ o → find_rows n sums names ≡ p → option_and_then (λ s. option_and_then (λ ss. Some (s ∷ ss)) p) o ≡ Some named → FirstNamed n sums name names named
    parts None p f g h = cc
    parts (Some s) None f g h = cc
    parts (Some s) (Some ss) f g h =
        let same : s ∷ ss ≡ named = cc in
        record { first = s; rest = ss; first_is = f; rest_is = g; same = sym same }

-- the row of a name that is there
pub named_stands : (cells : List Cell) (o : Option Sum) (s : Sum) (found : Option CellRow) (raw : CellRow) (ms : List Mark) → o ≡ Some s → found ≡ Some raw → RowStands cells (unnamed o) found ms → ProductsStand cells s.products (take raw.count ms) × (raw.constant ≡ Exact s.constant)
named_stands cells o s found raw ms e f h =
    subst (λ x. RowStands cells (unnamed (Some s)) x ms) f (subst (λ x. RowStands cells (unnamed x) found ms) e h)

pub no_row : (cells : List Cell) (o : Option Sum) (s : Sum) (found : Option CellRow) (ms : List Mark) → o ≡ Some s → found ≡ None → RowStands cells (unnamed o) found ms → ⊥
no_row cells o s found ms e f h = subst (λ x. RowStands cells (unnamed (Some s)) x ms) f (subst (λ x. RowStands cells (unnamed x) found ms) e h)

-- what follows from what a clause says of an error
pub on_err : {T E P Q : Type 0} (r : Result T E) → (P → Q) → OnErr r P → OnErr r Q
on_err (Ok x) f h = tt
on_err (Err e) f h = f h

-- narrow products have narrow coefficients
pub narrow_coefficient : (t : Term) (ps : List Product) → are_narrow ps ≡ true → narrow (coefficient t ps) ≡ true
narrow_coefficient t [] h = refl
narrow_coefficient t (p ∷ ps) h =
    let parts = and_parts (narrow p.0) (are_narrow ps) h in
    by_test (same_term t p.1) parts.0 (narrow_coefficient t ps parts.1)
  where
    by_test : (b : Bool) → narrow p.0 ≡ true → narrow (coefficient t ps) ≡ true → narrow (if b then p.0 else coefficient t ps) ≡ true
    by_test true here later = here
    by_test false here later = later

-- the one number of a row without columns
pub one_number : (out : List ℤ) (v : ℤ) → length out ≡ 1 → set out 0 v ≡ v ∷ []
one_number [] v e = absurd (omega arith)
one_number (x ∷ []) v e = refl
one_number (x ∷ y ∷ out) v e = absurd (omega arith)

pub names_counted : (n : ℕ) (sums : List Sum) (names : List RowName) (named : List Sum) → find_rows n sums names ≡ Some named → length names ≡ length named
names_counted n sums [] [] e = refl
names_counted n sums [] (s ∷ named) e = cc
names_counted n sums (name ∷ names) named e =
    let f = first_named n sums name names named e in
    ap suc (names_counted n sums names f.rest f.rest_is) ∙ sym (ap length f.same)
