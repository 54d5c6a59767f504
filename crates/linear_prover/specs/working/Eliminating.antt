-- What the code answers while it eliminates, and what it needs for that.
use Rattle.std.specs.Prelude.{◌≡◌, ℕ, ◌+◌, ◌-◌, ◌^◌, ◌<◌, ◌≤◌, ltb, ℤ, pos, Bool, true, false, List, [], ◌∷◌, length, take, count_by, slice_index, slice_index_or, slice_set, IsTrue, Result, Ok, Err, if◌then◌else◌}
use Rattle.math_terms.specs.declared.name.Line.{Line}
use Rattle.num_theory.specs.declared.table.RowTable.{RowTable}
use Rattle.num_theory.specs.Rows.{all_narrow}
use Rattle.linear_prover.specs.declared.rows_in_hand.Combination.{Combination}
use Rattle.linear_prover.specs.declared.rows_in_hand.Hand.{Hand}
use Rattle.linear_prover.specs.declared.rows_in_hand.Stop.{Stop}
use Rattle.linear_prover.specs.declared.rows_in_hand.Stop.TheVariants.{Contradiction, TooMany, NoMemory}
use Rattle.linear_prover.specs.Elimination.{Numbered, Search, Going, Refuted, Over, eliminate_from, is_among, numbered_from}

-- Two rows of one length, whose numbers are not wide.
pub record CanCombine (a b : Numbered) : Type 0 where
  pub same_length : length a.1 ≡ length b.1
  pub narrow_first : IsTrue (all_narrow a.1)
  pub narrow_second : IsTrue (all_narrow b.1)

-- The search goes on with what is in hand, or ends early for the reason that is answered.
abbrev pub Goes : {A : Type 0} → Search → Hand → Result A Stop → Type 0
Goes s hand (Ok a) = s ≡ Going hand.rows.items hand.made.items
Goes s hand (Err Contradiction) = s ≡ Refuted hand.made.items
Goes s hand (Err TooMany) = s ≡ Over
Goes s hand (Err NoMemory) = Unit {0}

-- A row of so many numbers, none of them wide.
pub record IsRow (width : ℕ) (row : List ℤ) : Type 0 where
  pub wide : length row ≡ width
  pub narrow : IsTrue (all_narrow row)

-- Combination k has factors that are not wide, and is made of rows before it; n is the number of rows of the table.
pub record IsUsable (n k : ℕ) (c : Combination) : Type 0 where
  pub first_factor : c.p < 2 ^ 31
  pub second_factor : c.q < 2 ^ 31
  pub first_row : c.i < n + k
  pub second_row : c.j < n + k

abbrev pub AreUsable : ℕ → List Combination → Type 0
AreUsable n made = (k : ℕ) (d : Combination) → k < length made → IsUsable n k (slice_index_or made k d)

-- the combinations whose flags are set, with their numbers, which count from n
abbrev pub flagged : ℕ → List Bool → List Combination → List (ℕ × Combination)
flagged n [] cs = []
flagged n (f ∷ fs) [] = []
flagged n (f ∷ fs) (c ∷ cs) = if f then (n, c) ∷ flagged (n + 1) fs cs else flagged (n + 1) fs cs

-- the flags of combinations with one more set, unless it is of a row of the table
abbrev pub marked : ℕ → List Bool → ℕ → List Bool
marked n flags row = if ltb row n then flags else slice_set flags (row - n) true

-- flags that are set for the rows that are needed
abbrev pub AreFlags : ℕ → List Bool → List ℕ → Type 0
AreFlags n flags needed = (k : ℕ) → k < length flags → slice_index_or flags k false ≡ is_among needed (n + k)

-- the row stands in the table, or its flag is set
abbrev pub IsThere : ℕ → List Bool → ℕ → Type 0
IsThere n flags row = n ≤ row → slice_index_or flags (row - n) false ≡ true

-- Each combination whose flag is set is made of rows that are there.
abbrev pub IsClosed : ℕ → List Bool → List Combination → Type 0
IsClosed n flags made =
    (k : ℕ) (d : Combination) → k < length made → slice_index_or flags k false ≡ true → IsThere n flags (slice_index_or made k d).i × IsThere n flags (slice_index_or made k d).j

-- how many flags are set before each
abbrev pub ArePlaces : List Bool → List ℕ → Type 0
ArePlaces flags places = (length places ≡ length flags) × ((k : ℕ) → k < length flags → slice_index places k ≡ count_by (λ f. f) (take k flags))

-- how a line calls a row, by the places of combinations
abbrev pub called_by : ℕ → List ℕ → ℕ → ℕ
called_by n places row = if ltb row n then row + 1 else n + slice_index places (row - n) + 1

abbrev pub line_by : ℕ → List ℕ → Combination → Line
line_by n places c = record { p = pos c.p; i = called_by n places c.i; q = pos c.q; j = called_by n places c.j }

-- elimination of all atoms of a table
abbrev pub elimination : RowTable → Search
elimination t = eliminate_from (length t.rows) (length t.atoms) 0 (numbered_from 0 t.rows) []
