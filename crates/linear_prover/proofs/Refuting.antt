-- Where plain elimination finds a contradiction, its lines refute the table.
use Rattle.std.proofs.Common.{◌≡◌, ◌∙◌, sym, ap, subst, refl, ℕ, suc, ◌+◌, ◌*◌, ◌^◌, ◌<◌, ◌≤◌, ◌==◌, true, IsTrue, List, [], ◌∷◌, ◌++◌, length, fold, cond, ℤ, pos, int_lt, unsigned_abs, Option, Some, None, Result, Err, option_and_then, ⊎_elim, arith}
use Rattle.std.specs.Ordering.{int_eq}
use Rattle.std.specs.List.{All, list_all}
use Rattle.std.proofs.lemmas.Bool.{and_parts, cases_Bool, cond-true, cond-false, eq-eqb}
use Rattle.std.proofs.lemmas.Bool.Decides.{Decides-int_eq}
use Rattle.std.proofs.lemmas.Int.{ints}
use Rattle.std.proofs.lemmas.List.Elements.{All-from_recursion, All-weaker}
use Rattle.std.proofs.lemmas.Option.{same_Some, slice_get-get_or}
use Rattle.math_terms.specs.declared.name.Line.{Line}
use Rattle.num_theory.specs.declared.table.RowTable.{RowTable}
use Rattle.num_theory.specs.Rows.{all_narrow, coefficients, combined, combined_number, divisor, gcd, reduced}
use Rattle.num_theory.specs.Lines.{constant, is_contradiction, is_refuted, numbered, refutes, sum_by, sum_of}
use Rattle.linear_prover.specs.declared.rows_in_hand.Hand.{Hand}
use Rattle.linear_prover.specs.declared.rows_in_hand.Stop.{Stop}
use Rattle.linear_prover.specs.declared.rows_in_hand.Stop.TheVariants.{Contradiction}
use Rattle.linear_prover.specs.Elimination.{Numbered, Search, Going, Refuted, Over, eliminate_from, first_line, found, numbered_from, or_else, refutation}
use Rattle.num_theory.specs.Table.{IsTable}
use Rattle.linear_prover.specs.declared.rows_in_hand.Combination.{Combination}
use Rattle.linear_prover.specs.working.Eliminating.{AreUsable, Goes, IsRow, elimination}
use Rattle.linear_prover.proofs.Counting.{IsBounded, bounded_from, usable_from}
use Rattle.linear_prover.proofs.Making.{IsEnding, IsInHand, IsSound, all_rows, length-numbered_from, row_at, sound_from, start_in_hand}
use Rattle.linear_prover.proofs.Replaying.{ends_push, last_refutes, sum_at_rows}

-- the line by which a row of the table refutes
abbrev pub alone : ℕ → Line
alone k = record { p = pos 1; i = k; q = pos 0; j = k }

-- the line names a row that is a contradiction
first_at : (k : ℕ) (rows : List (List ℤ)) (lines : List Line) → first_line k rows ≡ Some lines →
    (j : ℕ) × (j < length rows) × (is_contradiction (row_at rows j) ≡ true) × (lines ≡ alone (k + j) ∷ [])
first_at k [] lines is = cc
first_at k (row ∷ rows) lines is =
    ⊎_elim
    (λ ends.
    let line = same_Some (alone k ∷ []) lines (sym (cond-true (is_contradiction row) (Some (alone k ∷ [])) (first_line (k + 1) rows) ends) ∙ is) in
    (0, omega arith, ends, sym line ∙ ap (λ m. alone m ∷ []) (omega arith)))
    (λ goes.
    let rest = first_at (k + 1) rows lines (sym (cond-false (is_contradiction row) (Some (alone k ∷ [])) (first_line (k + 1) rows) goes) ∙ is) in
    (suc rest.0, omega (arith, rest.1), rest.2, rest.3 ∙ ap (λ m. alone m ∷ []) (omega arith)))
    (cases_Bool (is_contradiction row))

once_and_never : (x y : ℤ) → combined_number 1 x 0 y ≡ x
once_and_never x y = omega (arith, ints)

combined_alone : (row : List ℤ) → combined 1 row 0 row ≡ row
combined_alone [] = refl
combined_alone (x ∷ xs) =
    let first = once_and_never x x in
    let rest = combined_alone xs in
    cc

zeros_divisor : (zs : List ℤ) → list_all (λ z. int_eq z (pos 0)) zs ≡ true → fold (λ g z. gcd g (unsigned_abs z)) 0 zs ≡ 0
unfolding gcd
zeros_divisor [] h = refl
zeros_divisor (z ∷ zs) h =
    let parts = and_parts (int_eq z (pos 0)) (list_all (λ z. int_eq z (pos 0)) zs) h in
    let zero : z ≡ pos 0 = (Decides-int_eq z (pos 0)).0 parts.0 in
    ap (λ y. fold (λ g z. gcd g (unsigned_abs z)) (gcd 0 (unsigned_abs y)) zs) zero ∙ zeros_divisor zs parts.1

reduced_alone : (row : List ℤ) → is_contradiction row ≡ true → reduced row ≡ row
reduced_alone row ends =
    let parts = and_parts (list_all (λ z. int_eq z (pos 0)) (coefficients row)) (int_lt (constant row) (pos 0)) ends in
    let none : (divisor row == 0) ≡ true = eq-eqb (divisor row) 0 (zeros_divisor (coefficients row) parts.0) in
    cond-true (divisor row == 0) row _ none

sum_alone : (row : List ℤ) → all_narrow row ≡ true → is_contradiction row ≡ true → sum_of 1 row 0 row ≡ Some row
sum_alone row narrow ends =
    let same = combined_alone row in
    ap (λ r. cond (all_narrow r) (Some (reduced r)) None) same ∙ (cond-true (all_narrow row) (Some (reduced row)) None narrow ∙ ap Some (reduced_alone row ends))

alone_refutes : (table : List (List ℤ)) (j : ℕ) → j < length table → all_narrow (row_at table j) ≡ true → is_contradiction (row_at table j) ≡ true →
    refutes table (alone (1 + j) ∷ []) ≡ true
alone_refutes table j within narrow ends =
    let row = row_at table j in
    let next : 1 + j ≡ suc j = omega arith in
    let read : numbered table (1 + j) ≡ Some row = ap (numbered table) next ∙ slice_get-get_or table j [] within in
    let made : sum_by table (alone (1 + j)) ≡ Some row = sum_at_rows 1 0 _ _ row row read read ∙ sum_alone row narrow ends in
    ap (λ o. is_refuted (option_and_then (λ r. Some (table ++ r ∷ [])) o)) made ∙ (ends_push table row ∙ ends)

pub table_rows : (table : RowTable) → IsTable table → All (IsRow (length table.atoms + 1)) table.rows
table_rows table is = λ k d within. record {
  wide = All-from_recursion (λ row. length row ≡ length table.atoms + 1) table.rows is.widths k d within;
  narrow = All-from_recursion (λ row. IsTrue (all_narrow row)) table.rows is.numbers k d within;
}

-- the search of a table ends with what its rows make
pub table_sound : (table : RowTable) → IsTable table →
    IsSound table.rows (length table.atoms + 1) [] (elimination table)
table_sound table is =
    sound_from table.rows (length table.atoms + 1) (length table.atoms) 0 (numbered_from 0 table.rows) []
    (start_in_hand table.rows (length table.atoms + 1) (table_rows table is))

found_refutes : (table : List (List ℤ)) (width : ℕ) (s : Search) (lines : List Line) → IsSound table width [] s → found (length table) s ≡ Some lines → refutes table lines ≡ true
found_refutes table width (Going rows made) lines sound is = cc
found_refutes table width (Refuted made) lines sound is = ap (refutes table) (sym (same_Some _ lines is)) ∙ last_refutes table made sound
found_refutes table width Over lines sound is = cc

pub refutation_refutes : (table : RowTable) (lines : List Line) → IsTable table → refutation (length table.atoms) table.rows ≡ Some lines → refutes table.rows lines ≡ true
refutation_refutes table lines is found_lines = at (first_line 1 table.rows) refl found_lines
  where
    at : (o : Option (List Line)) → first_line 1 table.rows ≡ o →
        or_else o (found (length table.rows) (elimination table)) ≡ Some lines → refutes table.rows lines ≡ true
    at None e h = found_refutes table.rows (length table.atoms + 1) (elimination table) lines (table_sound table is) h
    at (Some first) e h =
        let named = first_at 1 table.rows lines (e ∙ h) in
        let row = table_rows table is named.0 [] named.1 in
        ap (refutes table.rows) named.3 ∙ alone_refutes table.rows named.0 named.1 row.narrow named.2

-- What the last combination of a table needs, and how many there are at most.
pub record IsReady (table : List (List ℤ)) (made : List Combination) : Type 0 where
  pub some : 0 < length made
  pub usable : AreUsable (length table) made
  pub few : length table + length made < 2 ^ 31

pub ready_from : (table : RowTable) (made : List Combination) → IsTable table →
    elimination table ≡ Refuted made → IsReady table.rows made
ready_from table made is ends =
    let ending : IsEnding table.rows made = subst (IsSound table.rows (length table.atoms + 1) []) ends (table_sound table is) in
    let first_list : length (numbered_from 0 table.rows) ≤ 4096 = omega (arith, is.rows, length-numbered_from 0 table.rows) in
    let most : length made ≤ length table.atoms * 4096 =
    subst (IsBounded (length table.atoms * 4096)) ends
    (bounded_from (length table.rows) (length table.atoms) 0 (length table.atoms * 4096) (numbered_from 0 table.rows) [] first_list (omega arith)) in
    record {
      some = ending.some;
      usable = usable_from (all_rows table.rows made) (length table.rows) made ending.combinations;
      few = omega (arith, is.atoms, is.rows, most);
    }

pub numbered_rows : (table : RowTable) → IsTable table → All (λ r. IsRow (length table.atoms + 1) r.1) (numbered_from 0 table.rows)
numbered_rows table is =
    All-weaker (IsInHand table.rows (length table.atoms + 1) []) (λ r. IsRow (length table.atoms + 1) r.1) (λ r h. h.row) (numbered_from 0 table.rows)
    (start_in_hand table.rows (length table.atoms + 1) (table_rows table is)).each

-- the same, of a search that was begun with equal values
pub ready_at : (table : RowTable) (rows : List (List ℤ)) (numbered : List Numbered) (start : List Combination) (atoms : ℕ) (hand : Hand) (result : Result (Unit {0}) Stop) → IsTable table →
    rows ≡ table.rows → numbered ≡ numbered_from 0 rows → start ≡ [] → atoms ≡ length table.atoms → result ≡ Err Contradiction →
    Goes (eliminate_from (length rows) atoms 0 numbered start) hand result → IsReady rows hand.made.items
ready_at table rows numbered start atoms hand result is same_rows same_numbered none same_atoms ends goes =
    let found : eliminate_from (length rows) atoms 0 numbered start ≡ Refuted hand.made.items = subst (Goes (eliminate_from (length rows) atoms 0 numbered start) hand) ends goes in
    let begun : numbered ≡ numbered_from 0 table.rows = same_numbered ∙ ap (numbered_from 0) same_rows in
    let whole : elimination table ≡ Refuted hand.made.items = cc in
    subst (λ rs. IsReady rs hand.made.items) (sym same_rows) (ready_from table hand.made.items is whole)

-- the lines of a row of the table, and those that elimination finds
pub first_refutes : (table : RowTable) (rows : List (List ℤ)) (lines : List Line) → IsTable table → rows ≡ table.rows → Some lines ≡ first_line 1 rows → refutes table.rows lines ≡ true
first_refutes table rows lines is same first =
    refutation_refutes table lines is
    (ap (λ o. or_else o (found (length table.rows) (elimination table))) (sym (first ∙ ap (first_line 1) same)))

pub later_refutes : (table : RowTable) (lines : List Line) → IsTable table →
    found (length table.rows) (elimination table) ≡ Some lines → refutes table.rows lines ≡ true
later_refutes table lines is h =
    found_refutes table.rows (length table.atoms + 1) (elimination table) lines (table_sound table is) h
