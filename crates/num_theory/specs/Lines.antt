-- Lines, by which rows are made from rows, and refutations.
use Rattle.std.specs.Prelude.{ℕ, zero, suc, ◌-◌, ℤ, pos, negsuc, ◌+ℤ◌, ◌*ℤ◌, int_lt, int_le, Bool, false, ◌&&◌, List, [], ◌∷◌, ◌++◌, length, Option, Some, None, slice_get, slice_index_or, option_and_then, if◌then◌else◌}
use Rattle.std.specs.Ordering.{int_eq}
use Rattle.std.specs.List.{list_all}
use Rattle.math_terms.specs.declared.name.Line.{Line}
use Rattle.num_theory.specs.Rows.{combined, coefficients, reduced}
pub use Rattle.num_theory.specs.Rows.{all_narrow, narrow}

-- a row by its number, counted from 1
abbrev pub numbered : List (List ℤ) → ℕ → Option (List ℤ)
numbered rows zero = None
numbered rows (suc k) = slice_get rows k

-- p times one row and q times another, reduced; none where the sum is wide
abbrev pub sum_of : ℕ → List ℤ → ℕ → List ℤ → Option (List ℤ)
sum_of p a q b = if all_narrow (combined p a q b) then Some (reduced (combined p a q b)) else None

-- the multipliers are not negative, and both rows are there
abbrev pub sum_at : ℤ → Option (List ℤ) → ℤ → Option (List ℤ) → Option (List ℤ)
sum_at (pos p) (Some a) (pos q) (Some b) = sum_of p a q b
sum_at (pos p) (Some a) (pos q) None = None
sum_at (pos p) (Some a) (negsuc q) b = None
sum_at (pos p) None q b = None
sum_at (negsuc p) a q b = None

abbrev pub sum_by : List (List ℤ) → Line → Option (List ℤ)
sum_by rows l = sum_at l.p (numbered rows l.i) l.q (numbered rows l.j)

-- the rows with those that the lines append, one after another; none where a line appends none
abbrev pub with_lines : List Line → List (List ℤ) → Option (List (List ℤ))
with_lines [] rows = Some rows
with_lines (l ∷ ls) rows = option_and_then (λ row. with_lines ls (rows ++ row ∷ [])) (sum_by rows l)

-- the constant of a row
abbrev pub constant : List ℤ → ℤ
constant row = slice_index_or row (length row - 1) (pos 0)

-- no atom and a negative constant
abbrev pub is_contradiction : List ℤ → Bool
is_contradiction row = list_all (λ z. int_eq z (pos 0)) (coefficients row) && int_lt (constant row) (pos 0)

-- the last row, where there is one, is a contradiction
abbrev pub ends_in_contradiction : List (List ℤ) → Bool
ends_in_contradiction [] = false
ends_in_contradiction (row ∷ []) = is_contradiction row
ends_in_contradiction (row ∷ next ∷ rows) = ends_in_contradiction (next ∷ rows)

abbrev pub is_refuted : Option (List (List ℤ)) → Bool
is_refuted None = false
is_refuted (Some rows) = ends_in_contradiction rows

-- The lines refute the rows: the last of the rows, after the lines have appended theirs, is a contradiction.
abbrev pub refutes : List (List ℤ) → List Line → Bool
refutes rows lines = is_refuted (with_lines lines rows)

-- the sum of coefficients times the atoms' values, plus the constant
abbrev pub total : (ℕ → ℤ) → List ℤ → ℤ
total f [] = pos 0
total f (c ∷ []) = c
total f (c ∷ d ∷ cs) = c *ℤ f 0 +ℤ total (λ k. f (suc k)) (d ∷ cs)

-- what a row says of the atoms' values
abbrev pub row_holds : (ℕ → ℤ) → List ℤ → Bool
row_holds f row = int_le (pos 0) (total f row)
