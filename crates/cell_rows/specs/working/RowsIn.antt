-- Rows of numbers, each at the start of a place for more.
use Rattle.std.specs.Prelude.{◌≡◌, ℕ, ◌+◌, ℤ, Bool, true, false, List, [], ◌∷◌, ◌++◌, map, take, Option, Some, None, Result, Ok, Err}
use Rattle.cell_rows.specs.declared.difference.Short.{Short}

-- the first numbers of the first places are the rows
abbrev pub RowsIn : ℕ → ℕ → List (List ℤ) → List (List ℤ) → Type 0
RowsIn width count rows places = map (take width) (take count places) ≡ rows

-- the row that a line makes comes last, where it makes one
abbrev pub LineAdded : ℕ → ℕ → Option (List ℤ) → List (List ℤ) → Bool → List (List ℤ) → Type 0
LineAdded width count None rows added places = added ≡ false
LineAdded width count (Some row) rows added places = (added ≡ true) × RowsIn width (count + 1) (rows ++ row ∷ []) places

-- so many rows are there after the lines, where each made one
abbrev pub LinesFound : ℕ → Option (List (List ℤ)) → Result (Option ℕ) Short → List (List ℤ) → Type 0
LinesFound width rows (Err e) places = Unit {0}
LinesFound width rows (Ok None) places = rows ≡ None
LinesFound width rows (Ok (Some count)) places = (all : List (List ℤ)) × (rows ≡ Some all) × RowsIn width count all places
