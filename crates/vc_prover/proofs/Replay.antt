-- The lines of a refutation refute the rows that they use.
use Rattle.std.proofs.Common.{◌≡◌, ◌∙◌, sym, ap, refl, subst, ℕ, zero, suc, ◌+◌, ◌-◌, ◌<◌, ◌≤◌, ◌==◌, ◌||◌, leb, ℤ, pos, negsuc, Bool, true, false, List, [], ◌∷◌, ◌++◌, length, map, Option, Some, None, option_and_then, option_map, slice_get, ⊎_elim, arith}
use Rattle.std.specs.Prelude.{if◌then◌else◌}
use Rattle.std.proofs.lemmas.Bool.{cases_Bool, cases_lt, cond-true, cond-false, eqb-true, eq-eqb, leb-true, le-leb, or_left, or_right, false≢true}
use Rattle.std.proofs.lemmas.List.{length-append, length-map}
use Rattle.std.proofs.lemmas.Option.{same_Some, slice_get-map, slice_get_within}
use Rattle.std.specs.List.{AllByRecursion}
use Rattle.math_terms.specs.declared.name.Line.{Line}
use Rattle.math_terms.specs.declared.term.Term.{Term}
use Rattle.num_theory.specs.Lines.{ends_in_contradiction, is_contradiction, is_refuted, numbered, refutes, sum_at, sum_by, sum_of, with_lines}
use Rattle.num_theory.specs.Naming.{columns, occurs}
use Rattle.num_theory.specs.Table.{Sum, row_of}
use Rattle.vc_prover.specs.Search.{called, called_line, is_used, place_of, used_from}
use Rattle.vc_prover.specs.working.Answers.{chosen}
use Rattle.vc_prover.proofs.Alone.{alone_contradicts}
use Rattle.vc_prover.proofs.Columns.{Summed, Thins, contradiction_thins, named_thin, sum_thins}

pub ends_push : (rows : List (List ℤ)) (row : List ℤ) → ends_in_contradiction (rows ++ row ∷ []) ≡ is_contradiction row
ends_push [] row = refl
ends_push (r ∷ []) row = refl
ends_push (r ∷ s ∷ rows) row = ends_push (s ∷ rows) row

-- what stands at a place of a longer list
get_before : {A : Type 0} (xs ys : List A) (i : ℕ) → i < length xs → slice_get (xs ++ ys) i ≡ slice_get xs i
get_before [] ys i h = absurd (omega arith)
get_before (x ∷ xs) ys zero h = refl
get_before (x ∷ xs) ys (suc i) h = get_before xs ys i (omega arith)

get_last : {A : Type 0} (xs : List A) (x : A) (i : ℕ) → i ≡ length xs → slice_get (xs ++ x ∷ []) i ≡ Some x
get_last [] x zero e = refl
get_last [] x (suc i) e = absurd (omega arith)
get_last (y ∷ xs) x zero e = absurd (omega arith)
get_last (y ∷ xs) x (suc i) e = get_last xs x i (omega arith)

all_get : {A : Type 0} (P : A → Type 0) (xs : List A) (i : ℕ) (x : A) → AllByRecursion P xs → slice_get xs i ≡ Some x → P x
all_get P [] i x h e = absurd (let clash : None ≡ Some x = e in cc)
all_get P (y ∷ ys) zero x h e = subst P (same_Some y x e) h.0
all_get P (y ∷ ys) (suc i) x h e = all_get P ys i x h.1 e

mapped_get : {A B : Type 0} (f : A → B) (o : Option A) (y : B) → option_map f o ≡ Some y → (x : A) × (o ≡ Some x) × (f x ≡ y)
mapped_get f None y e = cc
mapped_get f (Some x) y e = (x, refl, same_Some (f x) y e)

sum_parts : (p q : ℤ) (o r : Option (List ℤ)) (row : List ℤ) → sum_at p o q r ≡ Some row →
    (m : ℕ) × (k : ℕ) × (a : List ℤ) × (b : List ℤ) × (p ≡ pos m) × (q ≡ pos k) × (o ≡ Some a) × (r ≡ Some b) × (sum_of m a k b ≡ Some row)
sum_parts (pos m) (pos k) (Some a) (Some b) row e = (m, k, a, b, refl, refl, refl, refl, e)
sum_parts (pos m) (pos k) (Some a) None row e = cc
sum_parts (pos m) (negsuc k) (Some a) r row e = cc
sum_parts (pos m) q None r row e = cc
sum_parts (negsuc m) q o r row e = cc

refuted_some : (o : Option (List ℤ)) (f : List ℤ → Option (List (List ℤ))) → is_refuted (option_and_then f o) ≡ true → (row : List ℤ) × (o ≡ Some row) × (is_refuted (f row) ≡ true)
refuted_some None f h = absurd (false≢true h)
refuted_some (Some row) f h = (row, refl, h)

module _ (bs : List Bool) (n : ℕ) (used : List ℕ) (whole : List Line) where
  IsUsed : ℕ → Type 0
  IsUsed k = is_used k whole ≡ true

  -- the row of the same name among the rows that are used
  record Found (all' : List (List ℤ)) (k : ℕ) (a : List ℤ) : Type 0 where
    row : List ℤ
    is : numbered all' (called n used k) ≡ Some row
    thins : Thins bs a row

  -- rows, and those that are used, with as many that were appended to both
  record Stand (all all' : List (List ℤ)) : Type 0 where
    more : ℕ
    long : length all ≡ n + more
    short : length all' ≡ length used + more
    rows : (k : ℕ) (a : List ℤ) → numbered all k ≡ Some a → (k ≤ n → IsUsed k) → Found all' k a

  called_later : (k : ℕ) → n < k → called n used k ≡ (k - n) + length used
  called_later k h =
      ⊎_elim (λ (e : leb k n ≡ true). absurd (omega (arith, leb-true k n e))) (λ (e : leb k n ≡ false). cond-false (leb k n) (place_of k used) ((k - n) + length used) e) (cases_Bool (leb k n))

  numbered_more : (rows : List (List ℤ)) (r : List ℤ) (k : ℕ) (a : List ℤ) → numbered rows k ≡ Some a → numbered (rows ++ r ∷ []) k ≡ Some a
  numbered_more rows r zero a e = cc
  numbered_more rows r (suc i) a e = get_before rows (r ∷ []) i (slice_get_within rows i a e) ∙ e

  -- one more row
  pushed_row : (all all' : List (List ℤ)) (r r' : List ℤ) → Stand all all' → Thins bs r r' → (k : ℕ) (a : List ℤ) → numbered (all ++ r ∷ []) k ≡ Some a → (k ≤ n → IsUsed k) → Found (all' ++ r' ∷ []) k a
  pushed_row all all' r r' h thins zero a e is = cc
  pushed_row all all' r r' h thins (suc i) a e is =
      ⊎_elim
      (λ (low : i < length all).
      let old = h.rows (suc i) a (sym (get_before all (r ∷ []) i low) ∙ e) is in
      record { row = old.row; is = numbered_more all' r' (called n used (suc i)) old.row old.is; thins = old.thins })
      (λ (high : length all ≤ i).
      let last : i ≡ length all = omega (arith, slice_get_within (all ++ r ∷ []) i a e, length-append all (r ∷ []), high) in
      let same : r ≡ a = same_Some r a (sym (get_last all r i last) ∙ e) in
      let call : called n used (suc i) ≡ suc (length all') = called_later (suc i) (omega (arith, h.long, last)) ∙ omega (arith, h.long, h.short, last) in
      record {
        row = r';
        is = ap (numbered (all' ++ r' ∷ [])) call ∙ get_last all' r' (length all') refl;
        thins = subst (λ s. Thins bs s r') same thins;
      })
      (cases_lt i (length all))

  pushed : (all all' : List (List ℤ)) (r r' : List ℤ) → Stand all all' → Thins bs r r' → Stand (all ++ r ∷ []) (all' ++ r' ∷ [])
  pushed all all' r r' h thins = record {
    more = h.more + 1;
    long = omega (arith, length-append all (r ∷ []), h.long);
    short = omega (arith, length-append all' (r' ∷ []), h.short);
    rows = pushed_row all all' r r' h thins;
  }

  -- a line makes the row of the rows that are used
  record Made (all' : List (List ℤ)) (l : Line) (r : List ℤ) : Type 0 where
    row : List ℤ
    is : sum_by all' (called_line n used l) ≡ Some row
    thins : Thins bs r row

  line_made : (all all' : List (List ℤ)) (l : Line) (r : List ℤ) → Stand all all' → IsUsed l.i → IsUsed l.j → sum_by all l ≡ Some r → Made all' l r
  line_made all all' l r h first second e =
      let p = sum_parts l.p l.q (numbered all l.i) (numbered all l.j) r e in
      let a = h.rows l.i p.2 p.6 (λ _. first) in
      let b = h.rows l.j p.3 p.7 (λ _. second) in
      let s : Summed bs p.0 p.1 a.row b.row r = sum_thins bs p.0 p.1 p.2 p.3 a.row b.row r a.thins b.thins p.8 in
      record {
        row = s.sum;
        is = (λ i. sum_at (p.4 i) (a.is i) (p.5 i) (b.is i)) ∙ s.is;
        thins = s.thins;
      }

  abbrev AreUsed : List Line → Type 0
  AreUsed ls = AllByRecursion (λ (l : Line). (is_used l.i whole ≡ true) × (is_used l.j whole ≡ true)) ls

  replay : (ls : List Line) (all all' : List (List ℤ)) → AreUsed ls → Stand all all' → (ends_in_contradiction all ≡ true → ends_in_contradiction all' ≡ true) →
      is_refuted (with_lines ls all) ≡ true → is_refuted (with_lines (map (called_line n used) ls) all') ≡ true
  unfolding IsUsed
  replay [] all all' are h ends e = ends e
  replay (l ∷ ls) all all' are h ends e =
      let step = refuted_some (sum_by all l) (λ row. with_lines ls (all ++ row ∷ [])) e in
      let made = line_made all all' l step.0 h are.0.0 are.0.1 step.1 in
      ap (λ o. is_refuted (option_and_then (λ row. with_lines (map (called_line n used) ls) (all' ++ row ∷ [])) o)) made.is
      ∙ replay ls (all ++ step.0 ∷ []) (all' ++ made.row ∷ []) are.1 (pushed all all' step.0 made.row h made.thins)
      (λ (last : ends_in_contradiction (all ++ step.0 ∷ []) ≡ true). ends_push all' made.row ∙ contradiction_thins bs step.0 made.row made.thins (sym (ends_push all step.0) ∙ last)) step.2

  -- the same where there is a line
  replay_first : (l : Line) (ls : List Line) (all all' : List (List ℤ)) → AreUsed (l ∷ ls) → Stand all all' → refutes all (l ∷ ls) ≡ true → refutes all' (map (called_line n used) (l ∷ ls)) ≡ true
  unfolding IsUsed
  replay_first l ls all all' are h e =
      let step = refuted_some (sum_by all l) (λ row. with_lines ls (all ++ row ∷ [])) e in
      let made = line_made all all' l step.0 h are.0.0 are.0.1 step.1 in
      ap (λ o. is_refuted (option_and_then (λ row. with_lines (map (called_line n used) ls) (all' ++ row ∷ [])) o)) made.is
      ∙ replay ls (all ++ step.0 ∷ []) (all' ++ made.row ∷ []) are.1 (pushed all all' step.0 made.row h made.thins)
      (λ (last : ends_in_contradiction (all ++ step.0 ∷ []) ≡ true). ends_push all' made.row ∙ contradiction_thins bs step.0 made.row made.thins (sym (ends_push all step.0) ∙ last)) step.2

-- the place of a row that is used
record Placed {A : Type 0} (k n : ℕ) (xs : List A) (lines : List Line) (i : ℕ) (x : A) : Type 0 where
  at : ℕ
  place : place_of (k + i) (used_from k n lines) ≡ suc at
  there : slice_get (chosen k xs lines) at ≡ Some x

chosen_length : {A : Type 0} (k : ℕ) (xs : List A) (lines : List Line) → length (chosen k xs lines) ≡ length (used_from k (length xs) lines)
chosen_length k [] lines = refl
chosen_length k (x ∷ xs) lines = put (is_used k lines) (chosen_length (k + 1) xs lines)
  where
    put : (b : Bool) → length (chosen (k + 1) xs lines) ≡ length (used_from (k + 1) (length xs) lines) →
        length (if b then x ∷ chosen (k + 1) xs lines else chosen (k + 1) xs lines) ≡ length (if b then k ∷ used_from (k + 1) (length xs) lines else used_from (k + 1) (length xs) lines)
    put true e = ap suc e
    put false e = e

-- behind a row that is used, and behind one that is not
placed_behind : {A : Type 0} (k n : ℕ) (x0 : A) (xs : List A) (lines : List Line) (i : ℕ) (x : A) (b : Bool) → is_used k lines ≡ b → Placed (k + 1) n xs lines i x → Placed k (suc n) (x0 ∷ xs) lines (suc i) x
placed_behind k n x0 xs lines i x true is h =
    let e : (k + 1) + i ≡ k + suc i = omega arith in
    let other : (k == (k + suc i)) ≡ false = ⊎_elim (λ (y : (k == (k + suc i)) ≡ true). absurd (omega (arith, eqb-true k (k + suc i) y))) (λ (y : (k == (k + suc i)) ≡ false). y) (cases_Bool (k == (k + suc i))) in
    let numbers : used_from k (suc n) lines ≡ k ∷ used_from (k + 1) n lines = cond-true (is_used k lines) (k ∷ used_from (k + 1) n lines) (used_from (k + 1) n lines) is in
    let rows : chosen k (x0 ∷ xs) lines ≡ x0 ∷ chosen (k + 1) xs lines = cond-true (is_used k lines) (x0 ∷ chosen (k + 1) xs lines) (chosen (k + 1) xs lines) is in
    let behind : place_of (k + suc i) (used_from (k + 1) n lines) ≡ suc h.at = ap (λ m. place_of m (used_from (k + 1) n lines)) (sym e) ∙ h.place in
    record {
      at = suc h.at;
      place = ap (place_of (k + suc i)) numbers ∙ (cond-false (k == (k + suc i)) 1 (place_of (k + suc i) (used_from (k + 1) n lines) + 1) other ∙ omega (arith, behind));
      there = ap (λ ys. slice_get ys (suc h.at)) rows ∙ h.there;
    }
placed_behind k n x0 xs lines i x false is h =
    let e : (k + 1) + i ≡ k + suc i = omega arith in
    let numbers : used_from k (suc n) lines ≡ used_from (k + 1) n lines = cond-false (is_used k lines) (k ∷ used_from (k + 1) n lines) (used_from (k + 1) n lines) is in
    let rows : chosen k (x0 ∷ xs) lines ≡ chosen (k + 1) xs lines = cond-false (is_used k lines) (x0 ∷ chosen (k + 1) xs lines) (chosen (k + 1) xs lines) is in
    record {
      at = h.at;
      place = (λ j. place_of (sym e j) (numbers j)) ∙ h.place;
      there = ap (λ ys. slice_get ys h.at) rows ∙ h.there;
    }

placed : {A : Type 0} (k : ℕ) (xs : List A) (lines : List Line) (i : ℕ) (x : A) → slice_get xs i ≡ Some x → is_used (k + i) lines ≡ true → Placed k (length xs) xs lines i x
placed k [] lines i x e is = cc
placed k (y ∷ ys) lines zero x e is =
    let here : k + 0 ≡ k = omega arith in
    let used : is_used k lines ≡ true = ap (λ m. is_used m lines) (sym here) ∙ is in
    record {
      at = 0;
      place = (λ j. place_of (here j) (cond-true (is_used k lines) (k ∷ used_from (k + 1) (length ys) lines) (used_from (k + 1) (length ys) lines) used j))
          ∙ cond-true (k == k) 1 (place_of k (used_from (k + 1) (length ys) lines) + 1) (eq-eqb k k refl);
      there = ap (λ zs. slice_get zs 0) (cond-true (is_used k lines) (y ∷ chosen (k + 1) ys lines) (chosen (k + 1) ys lines) used) ∙ e;
    }
placed k (y ∷ ys) lines (suc i) x e is =
    let next : k + suc i ≡ (k + 1) + i = omega arith in
    placed_behind k (length ys) y ys lines i x (is_used k lines) refl (placed (k + 1) ys lines i x e (ap (λ m. is_used m lines) (sym next) ∙ is))

-- each line uses the rows that it names
used_more : (l : Line) (ls rest : List Line) → AllByRecursion (λ (m : Line). (is_used m.i ls ≡ true) × (is_used m.j ls ≡ true)) rest → AllByRecursion (λ (m : Line). (is_used m.i (l ∷ ls) ≡ true) × (is_used m.j (l ∷ ls) ≡ true)) rest
used_more l ls [] h = tt
used_more l ls (m ∷ rest) h =
    ((or_right ((l.i == m.i) || (l.j == m.i)) (is_used m.i ls) h.0.0, or_right ((l.i == m.j) || (l.j == m.j)) (is_used m.j ls) h.0.1), used_more l ls rest h.1)

all_used : (ls : List Line) → AllByRecursion (λ (m : Line). (is_used m.i ls ≡ true) × (is_used m.j ls ≡ true)) ls
all_used [] = tt
all_used (l ∷ ls) = (
  (
    or_left ((l.i == l.i) || (l.j == l.i)) (is_used l.i ls) (or_left (l.i == l.i) (l.j == l.i) (eq-eqb l.i l.i refl)),
    or_left ((l.i == l.j) || (l.j == l.j)) (is_used l.j ls) (or_right (l.i == l.j) (l.j == l.j) (eq-eqb l.j l.j refl)),
  ),
  used_more l ls ls (all_used ls),
)

module _ (atoms : List Term) (sums : List Sum) (lines : List Line) where
  abbrev named : List Sum
  named = chosen 1 sums lines

  abbrev marks : List Bool
  marks = map (occurs named) atoms

  abbrev first_used : List ℕ
  first_used = used_from 1 (length sums) lines

  first_found : (k : ℕ) (a : List ℤ) → numbered (map (row_of atoms) sums) k ≡ Some a → (k ≤ length sums → IsUsed marks (length sums) first_used lines k) →
      Found marks (length sums) first_used lines (map (row_of (columns atoms named)) named) k a
  unfolding IsUsed
  first_found zero a e is = cc
  first_found (suc i) a e is =
      let s = mapped_get (row_of atoms) (slice_get sums i) a (sym (slice_get-map (row_of atoms) sums i) ∙ e) in
      let low : suc i ≤ length sums = omega (arith, slice_get_within sums i s.0 s.1) in
      let next : 1 + i ≡ suc i = omega arith in
      let p = placed 1 sums lines i s.0 s.1 (ap (λ m. is_used m lines) next ∙ is low) in
      let call : called (length sums) first_used (suc i) ≡ suc p.at =
      cond-true (leb (suc i) (length sums)) (place_of (suc i) first_used) ((suc i - length sums) + length first_used) (le-leb (suc i) (length sums) low) ∙ (ap (λ m. place_of m first_used) (sym next) ∙ p.place) in
      record {
        row = row_of (columns atoms named) s.0;
        is = ap (numbered (map (row_of (columns atoms named)) named)) call
            ∙ (slice_get-map (row_of (columns atoms named)) named p.at ∙ ap (option_map (row_of (columns atoms named))) p.there);
        thins = subst (λ r. Thins marks r (row_of (columns atoms named) s.0)) s.2
            (all_get (λ t. Thins marks (row_of atoms t) (row_of (columns atoms named) t)) named p.at s.0 (named_thin atoms named) p.there);
      }

  first_stand : Stand marks (length sums) first_used lines (map (row_of atoms) sums) (map (row_of (columns atoms named)) named)
  first_stand = record {
    more = 0;
    long = omega (arith, length-map sums (row_of atoms));
    short = omega (arith, length-map named (row_of (columns atoms named)), chosen_length 1 sums lines);
    rows = first_found;
  }

-- The lines of a refutation refute the rows that they use, in the columns of these.
pub used_refuted : (atoms : List Term) (sums : List Sum) (l : Line) (ls : List Line) → refutes (map (row_of atoms) sums) (l ∷ ls) ≡ true →
    refutes (map (row_of (columns atoms (chosen 1 sums (l ∷ ls)))) (chosen 1 sums (l ∷ ls))) (map (called_line (length sums) (used_from 1 (length sums) (l ∷ ls))) (l ∷ ls)) ≡ true
used_refuted atoms sums l ls h =
    replay_first (marks atoms sums (l ∷ ls)) (length sums) (first_used atoms sums (l ∷ ls)) (l ∷ ls) l ls (map (row_of atoms) sums) (map (row_of (columns atoms (chosen 1 sums (l ∷ ls)))) (chosen 1 sums (l ∷ ls)))
    (all_used (l ∷ ls)) (first_stand atoms sums (l ∷ ls)) h

-- a row that is named alone
chosen_none : {A : Type 0} (l : Line) (k : ℕ) (xs : List A) → l.i < k → l.j < k → chosen k xs (l ∷ []) ≡ []
chosen_none l k [] h g = refl
chosen_none l k (x ∷ xs) h g =
    let not_i : (l.i == k) ≡ false = ⊎_elim (λ (y : (l.i == k) ≡ true). absurd (omega (arith, eqb-true l.i k y))) (λ (y : (l.i == k) ≡ false). y) (cases_Bool (l.i == k)) in
    let not_j : (l.j == k) ≡ false = ⊎_elim (λ (y : (l.j == k) ≡ true). absurd (omega (arith, eqb-true l.j k y))) (λ (y : (l.j == k) ≡ false). y) (cases_Bool (l.j == k)) in
    let none : is_used k (l ∷ []) ≡ false = λ i. (not_i i || not_j i) || false in
    cond-false (is_used k (l ∷ [])) (x ∷ chosen (k + 1) xs (l ∷ [])) (chosen (k + 1) xs (l ∷ [])) none ∙ chosen_none l (k + 1) xs (omega arith) (omega arith)

chosen_one : {A : Type 0} (l : Line) (k : ℕ) (xs : List A) (i : ℕ) (x : A) → slice_get xs i ≡ Some x → l.i ≡ k + i → l.j ≡ k + i → chosen k xs (l ∷ []) ≡ x ∷ []
chosen_one l k [] i x e f g = cc
chosen_one l k (y ∷ ys) zero x e f g =
    let here : l.i ≡ k = omega (arith, f) in
    let is : is_used k (l ∷ []) ≡ true = or_left ((l.i == k) || (l.j == k)) false (or_left (l.i == k) (l.j == k) (eq-eqb l.i k here)) in
    let same : y ≡ x = same_Some y x e in
    cond-true (is_used k (l ∷ [])) (y ∷ chosen (k + 1) ys (l ∷ [])) (chosen (k + 1) ys (l ∷ [])) is
    ∙ (λ j. same j ∷ chosen_none l (k + 1) ys (omega (arith, f)) (omega (arith, g)) j)
chosen_one l k (y ∷ ys) (suc i) x e f g =
    let not_i : (l.i == k) ≡ false = ⊎_elim (λ (z : (l.i == k) ≡ true). absurd (omega (arith, eqb-true l.i k z, f))) (λ (z : (l.i == k) ≡ false). z) (cases_Bool (l.i == k)) in
    let not_j : (l.j == k) ≡ false = ⊎_elim (λ (z : (l.j == k) ≡ true). absurd (omega (arith, eqb-true l.j k z, g))) (λ (z : (l.j == k) ≡ false). z) (cases_Bool (l.j == k)) in
    let none : is_used k (l ∷ []) ≡ false = λ j. (not_i j || not_j j) || false in
    cond-false (is_used k (l ∷ [])) (y ∷ chosen (k + 1) ys (l ∷ [])) (chosen (k + 1) ys (l ∷ [])) none
    ∙ chosen_one l (k + 1) ys i x e (omega (arith, f)) (omega (arith, g))

-- the row that a line names twice
module _ (atoms : List Term) (sums : List Sum) (l : Line) (same : l.i ≡ l.j) where
  abbrev alone : List Sum
  alone = chosen 1 sums (l ∷ [])

  row_alone : (k : ℕ) → l.i ≡ k → (a r : List ℤ) (p q : ℕ) → numbered (map (row_of atoms) sums) k ≡ Some a → sum_of p a q a ≡ Some r → is_contradiction r ≡ true →
      refutes (map (row_of (columns atoms alone)) alone) [] ≡ true
  row_alone zero e a r p q there made ends = cc
  row_alone (suc i) e a r p q there made ends =
      let s = mapped_get (row_of atoms) (slice_get sums i) a (sym (slice_get-map (row_of atoms) sums i) ∙ there) in
      let one : alone ≡ s.0 ∷ [] = chosen_one l 1 sums i s.0 s.1 (omega (arith, e)) (omega (arith, e, same)) in
      let all = named_thin atoms alone in
      let thins : Thins (map (occurs alone) atoms) (row_of atoms s.0) (row_of (columns atoms alone) s.0) =
      (subst (λ ss. AllByRecursion (λ t. Thins (map (occurs alone) atoms) (row_of atoms t) (row_of (columns atoms alone) t)) ss) one all).0 in
      let form : a ≡ thins.numbers ++ thins.last ∷ [] = sym s.2 ∙ thins.is in
      let first : is_contradiction (row_of atoms s.0) ≡ true =
      ap is_contradiction thins.is ∙ alone_contradicts p q thins.numbers thins.last r ((λ j. sum_of p (sym form j) q (sym form j)) ∙ made) ends in
      ap (λ ss. ends_in_contradiction (map (row_of (columns atoms alone)) ss)) one ∙ contradiction_thins (map (occurs alone) atoms) (row_of atoms s.0) (row_of (columns atoms alone) s.0) thins first

  -- A row that refutes alone does so in its own columns.
  pub alone_refuted : refutes (map (row_of atoms) sums) (l ∷ []) ≡ true → refutes (map (row_of (columns atoms alone)) alone) [] ≡ true
  alone_refuted h =
      let rows : List (List ℤ) = map (row_of atoms) sums in
      let step = refuted_some (sum_by rows l) (λ row. Some (rows ++ row ∷ [])) h in
      let p = sum_parts l.p l.q (numbered rows l.i) (numbered rows l.j) step.0 step.1 in
      let ends : is_contradiction step.0 ≡ true = sym (ends_push rows step.0) ∙ step.2 in
      let twice : p.2 ≡ p.3 = same_Some p.2 p.3 (sym p.6 ∙ (ap (numbered rows) same ∙ p.7)) in
      row_alone l.i refl p.2 step.0 p.0 p.1 p.6 (ap (λ b. sum_of p.0 p.2 p.1 b) twice ∙ p.8) ends
