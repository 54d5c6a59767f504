-- Names, lines and atoms one after another.
use Rattle.std.proofs.Common.{◌≡◌, ◌∙◌, sym, ap, refl, subst, ℕ, zero, suc, ◌+◌, ◌-◌, ◌<◌, ℤ, Bool, true, false, ◌||◌, List, [], ◌∷◌, ◌++◌, length, map, get_or, set, take, drop, slice_get, Option, Some, None, option_and_then, arith}
use Rattle.std.specs.List.{list_any}
use Rattle.std.proofs.Math.Seq.{drop-cons}
use Rattle.math_terms.specs.Heads.{same_term}
use Rattle.std.proofs.lemmas.List.{append-nil, map_push, take_more}
use Rattle.std.proofs.lemmas.List.Folds.{list_any-append}
use Rattle.std.proofs.lemmas.Option.{get_or_from_slice_get, slice_get_within}
use Rattle.math_terms.specs.declared.name.Line.{Line}
use Rattle.math_terms.specs.declared.descriptor.Sort.{Sort}
use Rattle.math_terms.specs.declared.name.RowName.{RowName}
use Rattle.math_terms.specs.declared.term.Term.{Term}
use Rattle.num_theory.specs.Lines.{sum_by, with_lines}
use Rattle.num_theory.specs.Naming.{find_row, find_rows, occurs}
use Rattle.num_theory.specs.Table.{Sum, atoms_of, sums_from, sums_of}
use Rattle.cell_rows.specs.working.Columns.{RowUsed, UsedIs, has_product}
use Rattle.cell_rows.specs.working.Finding.{numbered, unnamed}
use Rattle.cell_rows.specs.working.RowsIn.{LineAdded, RowsIn}
use Rattle.cell_rows.proofs.Flags.{unfound_rows}
use Rattle.cell_rows.proofs.Matrix.{first_named}
use Rattle.cell_rows.proofs.Replaying.{line_makes, row_appended}
use Rattle.cell_rows.proofs.Summing.{atoms_append, sums_append}

pub next_at : {A : Type 0} (xs : List A) (i : ℕ) (x : A) → slice_get xs i ≡ Some x → drop i xs ≡ x ∷ drop (i + 1) xs
next_at xs i x e =
    let one : suc i ≡ i + 1 = omega arith in
    drop-cons xs i x (slice_get_within xs i x e) ∙ (λ j. get_or_from_slice_get xs i x x e j ∷ drop (one j) xs)

pub numbered_before : {A : Type 0} (xs : List A) (k : ℕ) → 0 < k → numbered xs k ≡ slice_get xs (k - 1)
numbered_before xs zero l = absurd (omega arith)
numbered_before xs (suc k) l =
    let less : k ≡ suc k - 1 = omega arith in
    ap (slice_get xs) less

module _ (n : ℕ) (sums : List Sum) where
  -- one more name whose row is there, and one whose row is not
  find_push : (names : List RowName) (name : RowName) (done : List Sum) (s : Sum) → find_rows n sums names ≡ Some done → find_row n name sums ≡ Some s → find_rows n sums (names ++ name ∷ []) ≡ Some (done ++ s ∷ [])
  find_push [] name [] s e f = ap (option_and_then (λ r. Some (r ∷ []))) f
  find_push [] name (d ∷ done) s e f = cc
  find_push (m ∷ names) name done s e f =
      let h = first_named n sums m names done e in
      (λ i. option_and_then (λ r. option_and_then (λ rs. Some (r ∷ rs)) (find_push names name h.rest s h.rest_is f i)) (h.first_is i)) ∙ ap (λ rs. Some (rs ++ s ∷ [])) (sym h.same)

  pub find_none : (names : List RowName) (name : RowName) (rest : List RowName) → find_row n name sums ≡ None → find_rows n sums (names ++ name ∷ rest) ≡ None
  find_none [] name rest f = ap (option_and_then (λ r. option_and_then (λ rs. Some (r ∷ rs)) (find_rows n sums rest))) f
  find_none (m ∷ names) name rest f = unfound_rows n sums m (names ++ name ∷ rest) (find_none names name rest f)

  occurs_more : (done : List Sum) (s : Sum) (t : Term) → (has_product s.products t || occurs done t) ≡ occurs (done ++ s ∷ []) t
  occurs_more done s t = by_test (has_product s.products t) (occurs done t) ∙ sym (list_any-append (λ (r : Sum). list_any (λ p. same_term t p.1) r.products) done (s ∷ []))
    where
      by_test : (a b : Bool) → (a || b) ≡ (b || (a || false))
      by_test true true = refl
      by_test true false = refl
      by_test false true = refl
      by_test false false = refl

  -- the flags with one more row
  pub used_more : (names : List RowName) (name : RowName) (ts : List Term) (used new : List Bool) → UsedIs (find_rows n sums names) ts true used →
      ((before : Term → Bool) → used ≡ map before ts → RowUsed (unnamed (find_row n name sums)) ts before true new) → UsedIs (find_rows n sums (names ++ name ∷ [])) ts true new
  used_more names name ts used new h g = by_row (find_rows n sums names) (find_row n name sums) refl refl h g
    where
      by_row : (o : Option (List Sum)) (r : Option Sum) → find_rows n sums names ≡ o → find_row n name sums ≡ r → UsedIs o ts true used → ((before : Term → Bool) → used ≡ map before ts → RowUsed (unnamed r) ts before true new) →
          UsedIs (find_rows n sums (names ++ name ∷ [])) ts true new
      by_row None r e f h g =
          let t = h in
          cc
      by_row (Some done) None e f h g =
          let t = g (occurs done) h.1 in
          cc
      by_row (Some done) (Some s) e f h g =
          subst (λ x. UsedIs x ts true new) (sym (find_push names name done s e f)) (refl, (g (occurs done) h.1).1 ∙ (λ i. map (λ t. occurs_more done s t i) ts))

pub row_missing : (o : Option Sum) (ts : List Term) (before : Term → Bool) (used : List Bool) → RowUsed (unnamed o) ts before false used → o ≡ None
row_missing None ts before used h = refl
row_missing (Some s) ts before used h =
    let t = h.0 in
    cc

-- the row of a name among others that are there
pub record NamedAt (n : ℕ) (sums : List Sum) (name : RowName) (named : List Sum) (k : ℕ) : Type 0 where
  pub row : Sum
  pub row_is : find_row n name sums ≡ Some row
  pub more : take (k + 1) named ≡ take k named ++ row ∷ []

pub named_at : (n : ℕ) (sums : List Sum) (names : List RowName) (named : List Sum) (k : ℕ) (d : RowName) → find_rows n sums names ≡ Some named → k < length names → NamedAt n sums (get_or names k d) named k
named_at n sums [] named k d e l = absurd (omega arith)
named_at n sums (m ∷ names) named zero d e l =
    let h = first_named n sums m names named e in
    record { row = h.first; row_is = h.first_is; more = ap (take 1) h.same }
named_at n sums (m ∷ names) named (suc k) d e l =
    let h = first_named n sums m names named e in
    let later = named_at n sums names h.rest k d h.rest_is (omega arith) in
    let one : suc k + 1 ≡ suc (k + 1) = omega arith in
    record {
      row = later.row;
      row_is = later.row_is;
      more = (λ i. take (one i) (h.same i)) ∙ ap (λ rs. h.first ∷ rs) later.more ∙ ap (λ rs. take (suc k) rs ++ later.row ∷ []) (sym h.same);
    }

-- a row is written behind the others
pub row_filled : (width : ℕ) (row : Sum → List ℤ) (named : List Sum) (k : ℕ) (s : Sum) (places : List (List ℤ)) (numbers : List ℤ) → take (k + 1) named ≡ take k named ++ s ∷ [] → RowsIn width k (map row (take k named)) places →
    k < length places → take width numbers ≡ row s → RowsIn width (k + 1) (map row (take (k + 1) named)) (set places k numbers)
row_filled width row named k s places numbers more h l e =
    row_appended width k (map row (take k named)) places h numbers l ∙ ap (λ r. map row (take k named) ++ r ∷ []) e ∙ sym (map_push row (take k named) s) ∙ ap (map row) (sym more)

-- The rows after the first of the lines: the others make of them what all lines make of the rows before.
pub record Replayed (width : ℕ) (lines rest : List Line) (rows : List (List ℤ)) (total : ℕ) (places : List (List ℤ)) : Type 0 where
  pub now : List (List ℤ)
  pub same : with_lines lines rows ≡ with_lines rest now
  pub stand : RowsIn width total now places

pub line_replayed : (width total : ℕ) (line : Line) (rest lines : List Line) (rows now : List (List ℤ)) (o : Option (List ℤ)) (added : Bool) (places : List (List ℤ)) → sum_by now line ≡ o → added ≡ true → LineAdded width total o now added places →
    with_lines lines rows ≡ with_lines (line ∷ rest) now → Replayed width lines rest rows (total + 1) places
line_replayed width total line rest lines rows now None added places e is h same = cc
line_replayed width total line rest lines rows now (Some row) added places e is h same = record { now = now ++ row ∷ []; same = same ∙ line_makes line rest now row e; stand = h.1 }

-- the atoms of the rows of one formula more
pub sums_more : (vars : List Sort) (hs : List Term) (i : ℕ) (t : Term) → slice_get hs i ≡ Some t → atoms_of [] (sums_from vars 1 (take (i + 1) hs)) ≡ atoms_of (atoms_of [] (sums_from vars 1 (take i hs))) (sums_of vars (1 + length (take i hs)) t)
sums_more vars hs i t e =
    let before = take i hs in
    let more = take_more hs i t (slice_get_within hs i t e) ∙ (λ j. before ++ get_or_from_slice_get hs i t t e j ∷ []) in
    ap (λ fs. atoms_of [] (sums_from vars 1 fs)) more ∙ ap (atoms_of []) (sums_append vars 1 before (t ∷ [])) ∙ atoms_append [] (sums_from vars 1 before) (sums_from vars (1 + length before) (t ∷ []))
    ∙ ap (atoms_of (atoms_of [] (sums_from vars 1 before))) (append-nil (sums_of vars (1 + length before) t))
