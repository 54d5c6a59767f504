-- Plain elimination: atoms go one after another, and the first contradiction refutes.
use Rattle.std.specs.Prelude.{ℕ, zero, suc, ◌+◌, leb, ltb, ◌==◌, ℤ, pos, int_lt, Bool, List, [], ◌∷◌, ◌++◌, length, map, reverse, Option, Some, None, slice_index_or, unsigned_abs, if◌then◌else◌}
use Rattle.std.specs.Ordering.{int_eq}
use Rattle.std.specs.List.{filter, list_any}
use Rattle.math_terms.specs.declared.name.Line.{Line}
use Rattle.num_theory.specs.Lines.{is_contradiction, sum_of}
use Rattle.linear_prover.specs.declared.rows_in_hand.Combination.{Combination}

-- A row with its number: those of the table are numbered from 0, and then each row that is made, in order.
abbrev pub Numbered : Type 0
Numbered = ℕ × List ℤ

-- The rows in hand and all combinations so far; or a contradiction was made, by the last of these; or a list had too many rows.
pub data Search : Type 0 where
  Going : List Numbered → List Combination → Search
  Refuted : List Combination → Search
  Over : Search

abbrev pub going : Search → (List Numbered → List Combination → Search) → Search
going (Going rows made) next = next rows made
going (Refuted made) next = Refuted made
going Over next = Over

-- the coefficient of atom k
abbrev pub column : ℕ → List ℤ → ℤ
column k row = slice_index_or row k (pos 0)

-- the most rows of one list
unfoldable pub most_rows : ℕ
most_rows = 4096

-- the row of a combination, where it is not wide, after the rows in hand; n is the number of rows of the table
abbrev pub with_row : ℕ → Combination → List Numbered → List Combination → Option (List ℤ) → Search
with_row n c rows made None = Going rows made
with_row n c rows made (Some row) =
    if leb most_rows (length rows) then Over
    else if is_contradiction row then Refuted (made ++ c ∷ [])
    else Going (rows ++ (n + length made, row) ∷ []) (made ++ c ∷ [])

-- a row where atom k has a positive coefficient and one where it has a negative one, so that it falls away
abbrev pub combination : ℕ → Numbered → Numbered → Combination
combination k a b = record { p = unsigned_abs (column k b.1); i = a.0; q = unsigned_abs (column k a.1); j = b.0 }

abbrev pub combine_two : ℕ → ℕ → Numbered → Numbered → List Numbered → List Combination → Search
combine_two n k a b rows made = with_row n (combination k a b) rows made (sum_of (combination k a b).p a.1 (combination k a b).q b.1)

abbrev pub combine_one : ℕ → ℕ → Numbered → List Numbered → List Numbered → List Combination → Search
combine_one n k a [] rows made = Going rows made
combine_one n k a (b ∷ bs) rows made = going (combine_two n k a b rows made) (combine_one n k a bs)

abbrev pub combine_all : ℕ → ℕ → List Numbered → List Numbered → List Numbered → List Combination → Search
combine_all n k [] bs rows made = Going rows made
combine_all n k (a ∷ above) bs rows made = going (combine_one n k a bs rows made) (combine_all n k above bs)

abbrev pub is_above : ℕ → Numbered → Bool
is_above k r = int_lt (pos 0) (column k r.1)

abbrev pub is_below : ℕ → Numbered → Bool
is_below k r = int_lt (column k r.1) (pos 0)

abbrev pub is_without : ℕ → Numbered → Bool
is_without k r = int_eq (column k r.1) (pos 0)

-- Rows without atom k stay, in order; then each row above is combined with each row below.
abbrev pub eliminate : ℕ → ℕ → List Numbered → List Combination → Search
eliminate n k rows made = combine_all n k (filter (is_above k) rows) (filter (is_below k) rows) (filter (is_without k) rows) made

-- so many atoms, from atom k on
abbrev pub eliminate_from : ℕ → ℕ → ℕ → List Numbered → List Combination → Search
eliminate_from n zero k rows made = Going rows made
eliminate_from n (suc atoms) k rows made = going (eliminate n k rows made) (eliminate_from n atoms (k + 1))

abbrev pub numbered_from : ℕ → List (List ℤ) → List Numbered
numbered_from n [] = []
numbered_from n (row ∷ rows) = (n, row) ∷ numbered_from (n + 1) rows

-- whether a number is among these
abbrev pub is_among : List ℕ → ℕ → Bool
is_among ns n = list_any (λ m. m == n) ns

-- The combinations, the last one first, from which needed rows come, with their numbers, in the order in which they were made.
abbrev pub kept : ℕ → List Combination → List ℕ → List (ℕ × Combination) → List (ℕ × Combination)
kept n [] needed after = after
kept n (c ∷ cs) needed after =
    if is_among needed (n + length cs) then kept n cs (c.i ∷ c.j ∷ needed) ((n + length cs, c) ∷ after) else kept n cs needed after

-- the last combination is needed, and what it comes from
abbrev pub needed_by_last : ℕ → List Combination → List (ℕ × Combination)
needed_by_last n made = at (reverse made)
  where
    at : List Combination → List (ℕ × Combination)
    at [] = []
    at (c ∷ cs) = kept n (c ∷ cs) ((n + length cs) ∷ []) []

-- the place of a number in a list, from 0
abbrev pub place_of : ℕ → List ℕ → ℕ
place_of n [] = 0
place_of n (m ∷ ms) = if m == n then 0 else suc (place_of n ms)

-- how a line calls a row: those of the table from 1 on, then the rows of the lines
abbrev pub called : ℕ → List ℕ → ℕ → ℕ
called n numbers row = if ltb row n then row + 1 else n + place_of row numbers + 1

abbrev pub line_of : ℕ → List ℕ → Combination → Line
line_of n numbers c = record { p = pos c.p; i = called n numbers c.i; q = pos c.q; j = called n numbers c.j }

abbrev pub lines_of : ℕ → List (ℕ × Combination) → List Line
lines_of n cs = map (λ c. line_of n (map (λ d. d.0) cs) c.1) cs

-- a row of the table that refutes: 1 times it and 0 times it
abbrev pub first_line : ℕ → List (List ℤ) → Option (List Line)
first_line k [] = None
first_line k (row ∷ rows) = if is_contradiction row then Some (record { p = pos 1; i = k; q = pos 0; j = k } ∷ []) else first_line (k + 1) rows

abbrev pub found : ℕ → Search → Option (List Line)
found n (Going rows made) = None
found n (Refuted made) = Some (lines_of n (needed_by_last n made))
found n Over = None

abbrev pub or_else : Option (List Line) → Option (List Line) → Option (List Line)
or_else None later = later
or_else (Some lines) later = Some lines

-- The lines that refute a table of rows over so many atoms, where plain elimination finds a contradiction.
abbrev pub refutation : ℕ → List (List ℤ) → Option (List Line)
refutation atoms rows = or_else (first_line 1 rows) (found (length rows) (eliminate_from (length rows) atoms 0 (numbered_from 0 rows) []))
