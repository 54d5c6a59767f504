-- Rows in places, by their numbers, and the rows that lines make.
use Rattle.std.proofs.Common.{◌≡◌, ◌∙◌, sym, ap, refl, subst, ℕ, zero, suc, ◌+◌, ◌-◌, ◌<◌, ◌≤◌, ◌<ℤ◌, ℤ, pos, negsuc, Bool, true, false, List, [], ◌∷◌, ◌++◌, length, map, set, take, slice_get, Option, Some, None, option_and_then, MatchOption, MatchResult, Result, Ok, Err, arith}
use Rattle.std.proofs.lemmas.Int.{ints}
use Rattle.std.proofs.lemmas.List.{map_push, take_at, take_more_set}
use Rattle.math_terms.specs.declared.name.Line.{Line}
use Rattle.num_theory.specs.Lines.{numbered, sum_at, sum_by, sum_of, with_lines}
use Rattle.cell_rows.specs.working.RowsIn.{LineAdded, RowsIn}

got_some : (width count : ℕ) (places : List (List ℤ)) (k : ℕ) (a : List ℤ) → k < count → slice_get places k ≡ Some a → slice_get (map (take width) (take count places)) k ≡ Some (take width a)
got_some width zero places k a l e = absurd (omega arith)
got_some width (suc count) [] k a l e = cc
got_some width (suc count) (p ∷ places) zero a l e =
    let same : p ≡ a = cc in
    ap (λ x. Some (take width x)) same
got_some width (suc count) (p ∷ places) (suc k) a l e = got_some width count places k a (omega arith) e

got_none : (width count : ℕ) (places : List (List ℤ)) (k : ℕ) → count ≤ k → slice_get (map (take width) (take count places)) k ≡ None
got_none width zero places k l = refl
got_none width (suc count) [] k l = refl
got_none width (suc count) (p ∷ places) zero l = absurd (omega arith)
got_none width (suc count) (p ∷ places) (suc k) l = got_none width count places k (omega arith)

got_past : (width count : ℕ) (places : List (List ℤ)) (k : ℕ) → slice_get places k ≡ None → slice_get (map (take width) (take count places)) k ≡ None
got_past width zero places k e = refl
got_past width (suc count) [] k e = refl
got_past width (suc count) (p ∷ places) zero e = cc
got_past width (suc count) (p ∷ places) (suc k) e = got_past width count places k e

module _ (width count : ℕ) (rows places : List (List ℤ)) (standing : RowsIn width count rows places) where
  pub no_row_zero : (k : ℕ) → k ≡ 0 → numbered rows k ≡ None
  no_row_zero zero e = refl
  no_row_zero (suc k) e = absurd (omega arith)

  pub no_row_past : (k : ℕ) → count < k → numbered rows k ≡ None
  no_row_past zero l = refl
  no_row_past (suc k) l = ap (λ rs. slice_get rs k) (sym standing) ∙ got_none width count places k (omega arith)

  pub row_there : (k : ℕ) (a : List ℤ) → (k ≡ 0 → ⊥) → k ≤ count → slice_get places (k - 1) ≡ Some a → numbered rows k ≡ Some (take width a)
  row_there zero a n l e = absurd (n refl)
  row_there (suc k) a n l e =
      let less : suc k - 1 ≡ k = omega arith in
      ap (λ rs. slice_get rs k) (sym standing) ∙ got_some width count places k a (omega arith) (ap (slice_get places) (sym less) ∙ e)

  pub row_missing : (k : ℕ) → slice_get places (k - 1) ≡ None → numbered rows k ≡ None
  row_missing zero e = refl
  row_missing (suc k) e =
      let less : suc k - 1 ≡ k = omega arith in
      ap (λ rs. slice_get rs k) (sym standing) ∙ got_past width count places k (ap (slice_get places) (sym less) ∙ e)

  -- one more row
  pub row_appended : (sum : List ℤ) → count < length places → RowsIn width (count + 1) (rows ++ take width sum ∷ []) (set places count sum)
  row_appended sum l =
      ap (map (take width)) (take_more_set places count sum l) ∙ map_push (take width) (take count places) sum ∙ ap (λ rs. rs ++ take width sum ∷ []) standing

  pub line_adds : (line : Line) (sum : List ℤ) → count < length places → sum_by rows line ≡ Some (take width sum) → LineAdded width count (sum_by rows line) rows true (set places count sum)
  line_adds line sum l e = subst (λ o. LineAdded width count o rows true (set places count sum)) (sym e) (refl, row_appended sum l)

pub no_line : (width count : ℕ) (rows places : List (List ℤ)) (line : Line) → sum_by rows line ≡ None → LineAdded width count (sum_by rows line) rows false places
no_line width count rows places line e = subst (λ o. LineAdded width count o rows false places) (sym e) refl

-- sums of rows
first_missing : (p q : ℤ) (b : Option (List ℤ)) → sum_at p None q b ≡ None
first_missing (pos p) q b = refl
first_missing (negsuc p) q b = refl

second_missing : (p q : ℤ) (a : List ℤ) → sum_at p (Some a) q None ≡ None
second_missing (pos p) (pos q) a = refl
second_missing (pos p) (negsuc q) a = refl
second_missing (negsuc p) q a = refl

pub no_first_row : (rows : List (List ℤ)) (line : Line) → numbered rows line.i ≡ None → sum_by rows line ≡ None
no_first_row rows line e = ap (λ x. sum_at line.p x line.q (numbered rows line.j)) e ∙ first_missing line.p line.q (numbered rows line.j)

pub no_second_row : (rows : List (List ℤ)) (line : Line) (a : List ℤ) → numbered rows line.i ≡ Some a → numbered rows line.j ≡ None → sum_by rows line ≡ None
no_second_row rows line a e f = (λ i. sum_at line.p (e i) line.q (f i)) ∙ second_missing line.p line.q a

pub both_rows : (rows : List (List ℤ)) (line : Line) (a b : List ℤ) (o : Option (List ℤ)) → numbered rows line.i ≡ Some a → numbered rows line.j ≡ Some b → sum_at line.p (Some a) line.q (Some b) ≡ o → sum_by rows line ≡ o
both_rows rows line a b o e f g = (λ i. sum_at line.p (e i) line.q (f i)) ∙ g

pub sum_by_numbers : (p q : ℤ) (m n : ℕ) (a b : List ℤ) (o : Option (List ℤ)) → p ≡ pos m → q ≡ pos n → sum_of m a n b ≡ o → sum_at p (Some a) q (Some b) ≡ o
sum_by_numbers p q m n a b o e f g = (λ i. sum_at (e i) (Some a) (f i) (Some b)) ∙ g

pub negative_sums : (n : ℤ) → n <ℤ pos 0 → (a b : List ℤ) (p : ℤ) → (sum_at n (Some a) p (Some b) ≡ None) × (sum_at p (Some a) n (Some b) ≡ None)
negative_sums (pos n) h a b p = absurd (omega (arith, ints))
negative_sums (negsuc n) h a b (pos p) = (refl, refl)
negative_sums (negsuc n) h a b (negsuc p) = (refl, refl)

-- lines one after another
pub line_makes : (line : Line) (lines : List Line) (rows : List (List ℤ)) (row : List ℤ) → sum_by rows line ≡ Some row → with_lines (line ∷ lines) rows ≡ with_lines lines (rows ++ row ∷ [])
line_makes line lines rows row e = ap (option_and_then (λ r. with_lines lines (rows ++ r ∷ []))) e

pub line_makes_none : (line : Line) (lines : List Line) (rows : List (List ℤ)) → sum_by rows line ≡ None → with_lines (line ∷ lines) rows ≡ None
line_makes_none line lines rows e = ap (option_and_then (λ r. with_lines lines (rows ++ r ∷ []))) e

pub not_added : (width count : ℕ) (o : Option (List ℤ)) (rows : List (List ℤ)) (added : Bool) (places : List (List ℤ)) → LineAdded width count o rows added places → added ≡ false → o ≡ None
not_added width count None rows added places h e = refl
not_added width count (Some row) rows added places h e =
    let t = h.0 in
    cc

pub front_of_sum : {T E : Type 0} (r : Result T E) (o : Option (List ℤ)) (new rest : List ℤ) (width : ℕ) → length new ≡ width → MatchResult r (λ _. o ≡ Some new) (λ _. o ≡ None) → MatchResult r (λ _. o ≡ Some (take width (new ++ rest))) (λ _. o ≡ None)
front_of_sum (Ok x) o new rest width e h = h ∙ ap Some (sym (take_at new rest width e))
front_of_sum (Err x) o new rest width e h = h

pub row_found : (width count : ℕ) (rows places : List (List ℤ)) (standing : RowsIn width count rows places) (k : ℕ) → (k ≡ 0 → ⊥) → k ≤ count → (o : Option (List ℤ)) → o ≡ slice_get places (k - 1) → MatchOption o (numbered rows k ≡ None) (λ a. numbered rows k ≡ Some (take width a))
row_found width count rows places standing k n l None e = row_missing width count rows places standing k (sym e)
row_found width count rows places standing k n l (Some a) e = row_there width count rows places standing k a n l (sym e)
