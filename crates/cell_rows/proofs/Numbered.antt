-- Places and atoms by numbers.
use Rattle.std.proofs.Common.{◌≡◌, ◌∙◌, sym, ap, refl, ℕ, zero, suc, ◌-◌, ◌<◌, ◌≤◌, true, List, [], ◌∷◌, ◌++◌, length, take, slice_get, Option, Some, None, Result, Ok, Err, arith}
use Rattle.math_terms.specs.declared.term.Term.{Term}
use Rattle.term_cells.specs.declared.cell.Cell.{Cell}
use Rattle.term_cells.specs.Standing.{stands}
use Rattle.cell_rows.specs.declared.difference.CellRow.{CellRow}
use Rattle.cell_rows.specs.declared.difference.Short.{Short}
use Rattle.term_cells.specs.Placed.{AllStand}
use Rattle.cell_rows.specs.working.Finding.{RowFound, numbered}
use Rattle.cell_rows.specs.Forms.{Mark}
use Rattle.cell_rows.specs.RowsStand.{Row, RowOrShort}

pub stands_found : (cells : List Cell) (row : Option Row) (most : ℕ) (r : Result (Option CellRow) Short) (marks : List Mark) → RowOrShort cells row most r marks → RowFound cells row r marks
stands_found cells row most (Err e) marks h = tt
stands_found cells row most (Ok raw) marks h = h

module _ (cells : List Cell) where
  got : (ts : List Term) (ps : List ℕ) (i p : ℕ) → AllStand cells ts ps → slice_get ps i ≡ Some p → (t : Term) × (slice_get ts i ≡ Some t) × (stands cells t p ≡ true)
  got [] [] i p h e = cc
  got [] (q ∷ ps) i p h e = absurd h
  got (t ∷ ts) [] i p h e = absurd h
  got (t ∷ ts) (q ∷ ps) zero p h e =
      let same : q ≡ p = cc in
      (t, refl, ap (stands cells t) (sym same) ∙ h.0)
  got (t ∷ ts) (q ∷ ps) (suc i) p h e = got ts ps i p h.1 e

  not_got : (ts : List Term) (ps : List ℕ) (i : ℕ) → AllStand cells ts ps → slice_get ps i ≡ None → slice_get ts i ≡ None
  not_got [] [] i h e = refl
  not_got [] (q ∷ ps) i h e = absurd h
  not_got (t ∷ ts) [] i h e = absurd h
  not_got (t ∷ ts) (q ∷ ps) zero h e = cc
  not_got (t ∷ ts) (q ∷ ps) (suc i) h e = not_got ts ps i h.1 e

  pub number_at : (ts : List Term) (ps : List ℕ) (k p : ℕ) → AllStand cells ts ps → numbered ps k ≡ Some p → (t : Term) × (numbered ts k ≡ Some t) × (stands cells t p ≡ true)
  number_at ts ps zero p h e = cc
  number_at ts ps (suc k) p h e = got ts ps k p h e

  pub no_number : (ts : List Term) (ps : List ℕ) (k : ℕ) → AllStand cells ts ps → numbered ps k ≡ None → numbered ts k ≡ None
  no_number ts ps zero h e = refl
  no_number ts ps (suc k) h e = not_got ts ps k h e

  pub atoms_taken : (n : ℕ) (ts : List Term) (ps : List ℕ) → AllStand cells ts ps → AllStand cells (take n ts) (take n ps)
  atoms_taken zero ts ps h = tt
  atoms_taken (suc n) [] [] h = tt
  atoms_taken (suc n) [] (p ∷ ps) h = absurd h
  atoms_taken (suc n) (t ∷ ts) [] h = absurd h
  atoms_taken (suc n) (t ∷ ts) (p ∷ ps) h = (h.0, atoms_taken n ts ps h.1)

-- an item of two lists together
pub got_first : {A : Type 0} (xs ys : List A) (k : ℕ) → k < length xs → slice_get (xs ++ ys) k ≡ slice_get xs k
got_first [] ys k l = absurd (omega arith)
got_first (x ∷ xs) ys zero l = refl
got_first (x ∷ xs) ys (suc k) l = got_first xs ys k (omega arith)

pub got_second : {A : Type 0} (xs ys : List A) (k : ℕ) → length xs ≤ k → slice_get (xs ++ ys) k ≡ slice_get ys (k - length xs)
got_second [] ys k l =
    let same : k ≡ k - 0 = omega arith in
    ap (slice_get ys) same
got_second (x ∷ xs) ys zero l = absurd (omega arith)
got_second (x ∷ xs) ys (suc k) l =
    let same : k - length xs ≡ suc k - suc (length xs) = omega arith in
    got_second xs ys k (omega arith) ∙ ap (slice_get ys) same

pub is_got : {A : Type 0} (xs : List A) (k : ℕ) → k < length xs → (x : A) × (slice_get xs k ≡ Some x)
is_got [] k l = absurd (omega arith)
is_got (x ∷ xs) zero l = (x, refl)
is_got (x ∷ xs) (suc k) l = is_got xs k (omega arith)
