-- Flags of atoms, and columns.
use Rattle.std.proofs.Common.{◌≡◌, ◌∙◌, sym, ap, refl, subst, ℕ, suc, ◌+◌, ◌-◌, ◌<◌, Bool, true, false, ◌||◌, List, [], ◌∷◌, ◌++◌, length, map, get_or, set, take, drop, Option, Some, None, option_and_then, if◌then◌else◌, arith}
use borrow.Rule.Slice.PartMut.{put_mid}
use Rattle.std.specs.List.{filter}
use Rattle.std.proofs.lemmas.List.{append-nil, drop_all, take_rest}
use Rattle.math_terms.specs.declared.name.RowName.{RowName}
use Rattle.math_terms.specs.declared.term.Term.{Term}
use Rattle.num_theory.specs.Linear.{Product}
use Rattle.num_theory.specs.Naming.{find_row, find_rows, occurs}
use Rattle.num_theory.specs.Table.{Sum}
use Rattle.term_cells.specs.declared.cell.Cell.{Cell}
use Rattle.term_cells.specs.Standing.{stands}
use Rattle.term_cells.specs.Placed.{AllStand}
use Rattle.cell_rows.specs.working.Columns.{RowUsed, UsedIs, has_product}
use Rattle.cell_rows.proofs.Places.{FirstAtom, FirstProduct}
use Rattle.cell_rows.specs.declared.difference.CellRow.{CellRow}
use Rattle.cell_rows.specs.Forms.{Mark, ProductsStand}
use Rattle.cell_rows.specs.RowsStand.{Row, RowStands}
use Rattle.cell_rows.proofs.Marks.{same_is}

-- the first item is written, and then the others
pub one_then : {A : Type 0} (xs : List A) (v : A) (new : List A) → 0 < length xs → put_mid 1 (length (set xs 0 v) - 1) (set xs 0 v) new ≡ v ∷ new
one_then [] v new l = absurd (omega arith)
one_then (x ∷ xs) v new l =
    let end : drop (length (v ∷ xs) - 1) xs ≡ [] = drop_all (length (v ∷ xs) - 1) xs (omega arith) in
    ap (λ ys. v ∷ (new ++ ys)) end ∙ ap (λ ys. v ∷ ys) (append-nil new)

pub rest_set : {A : Type 0} (xs : List A) (v : A) → 0 < length xs → take (length (set xs 0 v) - 1) (drop 1 (set xs 0 v)) ≡ drop 1 xs
rest_set [] v l = absurd (omega arith)
rest_set (x ∷ xs) v l = take_rest (v ∷ xs) 1

module _ {A B : Type 0} (f : A → B) (xs : List A) (first : A) (rest : List A) (same : xs ≡ first ∷ rest) (ys : List B) (mapped : ys ≡ map f xs) where
  pub first_mapped : (d : B) → get_or ys 0 d ≡ f first
  first_mapped d = ap (λ l. get_or l 0 d) (mapped ∙ ap (map f) same)

  pub rest_mapped : drop 1 ys ≡ map f rest
  rest_mapped = ap (drop 1) (mapped ∙ ap (map f) same)

pub no_length : {A : Type 0} (xs : List A) (n : ℕ) → n ≡ 0 → n ≡ length xs → xs ≡ []
no_length [] n e f = refl
no_length (x ∷ xs) n e f = absurd (omega arith)

pub counted : {A B : Type 0} (xs : List A) (ys : List B) → length xs ≡ length ys → 0 < length xs → (y : B) × ((rest : List B) × (ys ≡ y ∷ rest))
counted xs [] e l = absurd (omega arith)
counted xs (y ∷ ys) e l = (y, (ys, refl))

module _ (cells : List Cell) (t : Term) (ps : List Product) (ms : List Mark) (d : Mark) (f : FirstProduct cells ps ms d) (b : Bool) where
  pub is_first : (b ≡ true → t ≡ f.first.1) × (t ≡ f.first.1 → b ≡ true) → b ≡ true → true ≡ has_product ps t
  is_first same is = sym (ap (λ x. has_product x t) f.same ∙ ap (λ s. s || has_product f.rest t) (sym (same_is cells b t f.first.1 same) ∙ is))

  pub is_later : (b ≡ true → t ≡ f.first.1) × (t ≡ f.first.1 → b ≡ true) → b ≡ false → (r : Bool) → r ≡ has_product f.rest t → r ≡ has_product ps t
  is_later same is r rest = rest ∙ sym (ap (λ x. has_product x t) f.same ∙ ap (λ s. s || has_product f.rest t) (sym (same_is cells b t f.first.1 same) ∙ is))

-- columns
module _ (cells : List Cell) (ts : List Term) (test : Term → Bool) (places : List ℕ) (d : ℕ) (f : FirstAtom cells ts places d) where
  pub left_out : test f.first ≡ false → filter test ts ≡ filter test f.rest
  left_out e = ap (filter test) f.same ∙ ap (λ (b : Bool). if b then f.first ∷ filter test f.rest else filter test f.rest) e

  pub left_in : test f.first ≡ true → filter test ts ≡ f.first ∷ filter test f.rest
  left_in e = ap (filter test) f.same ∙ ap (λ (b : Bool). if b then f.first ∷ filter test f.rest else filter test f.rest) e

  pub no_column : (columns : List ℕ) → test f.first ≡ true → columns ≡ [] → length columns < length (filter test ts)
  no_column columns e none = omega (arith, ap length (left_in e), ap length none)

  pub one_column : (columns new : List ℕ) (v n : ℕ) → test f.first ≡ true → 0 < length columns → stands cells f.first v ≡ true → AllStand cells (filter test f.rest) (take n new) →
      AllStand cells (filter test ts) (take (n + 1) (put_mid 1 (length (set columns 0 v) - 1) (set columns 0 v) new))
  one_column columns new v n e room s rest =
      let more : suc n ≡ n + 1 = omega arith in
      subst (λ x. AllStand cells x (take (n + 1) (put_mid 1 (length (set columns 0 v) - 1) (set columns 0 v) new))) (sym (left_in e))
      (subst (λ x. AllStand cells (f.first ∷ filter test f.rest) (take (n + 1) x)) (sym (one_then columns v new room))
      (subst (λ j. AllStand cells (f.first ∷ filter test f.rest) (take j (v ∷ new))) more (s, rest)))

  pub short_columns : (columns new : List ℕ) (v : ℕ) → test f.first ≡ true → 0 < length columns → length new < length (filter test f.rest) →
      length (put_mid 1 (length (set columns 0 v) - 1) (set columns 0 v) new) < length (filter test ts)
  short_columns columns new v e room short = omega (arith, ap length (left_in e), ap length (one_then columns v new room), short)

pub unfound_rows : (n : ℕ) (sums : List Sum) (name : RowName) (names : List RowName) → find_rows n sums names ≡ None → find_rows n sums (name ∷ names) ≡ None
unfound_rows n sums name names e = by_row (find_row n name sums)
  where
    by_row : (o : Option Sum) → option_and_then (λ s. option_and_then (λ ss. Some (s ∷ ss)) (find_rows n sums names)) o ≡ None
    by_row None = refl
    by_row (Some s) = ap (λ x. option_and_then (λ ss. Some (s ∷ ss)) x) e

-- what was found before
pub used_before : (o : Option (List Sum)) (ts : List Term) (found : Bool) (used : List Bool) → UsedIs o ts found used → found ≡ true → (named : List Sum) × (o ≡ Some named) × (used ≡ map (occurs named) ts)
used_before None ts found used h e = cc
used_before (Some named) ts found used h e = (named, refl, h.1)

-- the flags of a row that is there
pub row_used : (cells : List Cell) (r : Option Row) (row : CellRow) (o : Option CellRow) (ms : List Mark) (ts : List Term) (before : Term → Bool) (new : List Bool) → o ≡ Some row → RowStands cells r o ms →
    ((ps : List Product) → ProductsStand cells ps (take row.count ms) → new ≡ map (λ t. has_product ps t || before t) ts) → RowUsed r ts before true new
row_used cells None row None ms ts before new e h f = cc
row_used cells None row (Some raw) ms ts before new e h f = absurd h
row_used cells (Some r) row None ms ts before new e h f = absurd h
row_used cells (Some r) row (Some raw) ms ts before new e h f =
    let same : raw ≡ row = cc in
    (refl, f r.0 (subst (λ (x : CellRow). ProductsStand cells r.0 (take x.count ms)) same h.0))
