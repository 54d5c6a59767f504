-- Which rows lines use, and the step that names them.
use Rattle.std.proofs.Common.{◌≡◌, ◌∙◌, sym, ap, refl, ℕ, zero, suc, ◌+◌, ◌<◌, ◌≤◌, leb, Bool, true, false, List, [], ◌∷◌, ◌++◌, length, map, take, get_or, Some, None, slice_get, arith}
use Rattle.std.specs.Prelude.{if◌then◌else◌}
use Rattle.std.proofs.lemmas.Bool.{and_from, cond-true, cond_both, le-leb}
use Rattle.std.proofs.lemmas.List.{append-nil, append_assoc, length-append, length-map, length-take-le, map-append, take_more}
use Rattle.math_terms.specs.declared.descriptor.Sort.{Sort}
use Rattle.math_terms.specs.declared.name.Line.{Line}
use Rattle.math_terms.specs.declared.name.RowName.{RowName}
use Rattle.math_terms.specs.declared.term.Term.{Term}
use Rattle.num_theory.specs.declared.table.RowTable.{RowTable}
use Rattle.num_theory.specs.Naming.{name_among, negated_goal}
use Rattle.num_theory.specs.Table.{Gathered, IsTable, Sum, gathered, names_of, row_of, rows_of}
use Rattle.linear_prover.specs.Elimination.{refutation}
use Rattle.vc_sequents.specs.declared.sequent.Sequent.{Sequent}
use Rattle.vc_sequents.specs.Splitting.{sorts_of}
use Rattle.cert_form.specs.declared.cert.Step.TheVariants as step
use Rattle.vc_prover.specs.Search.{by_linear, called_line, is_alone, is_table, is_used, linear_step_of, mapped, names_at, table_of, used_from}
use Rattle.vc_prover.specs.working.Answers.{IsTableOf, chosen, step_by}

-- one more
abbrev one_if : {A : Type 0} → Bool → A → List A
one_if b x = if b then x ∷ [] else []

put_first : {A : Type 0} (b c : Bool) (x y : A) (xs : List A) → (if b then x ∷ (xs ++ one_if c y) else xs ++ one_if c y) ≡ (if b then x ∷ xs else xs) ++ one_if c y
put_first true c x y xs = refl
put_first false c x y xs = refl

chosen_push : {A : Type 0} (k : ℕ) (xs : List A) (x : A) (lines : List Line) → chosen k (xs ++ x ∷ []) lines ≡ chosen k xs lines ++ one_if (is_used (k + length xs) lines) x
chosen_push k [] x lines = let e : k + 0 ≡ k = omega arith in ap (λ n. one_if (is_used n lines) x) (sym e)
chosen_push k (y ∷ ys) x lines =
    let e : (k + 1) + length ys ≡ k + length (y ∷ ys) = omega arith in
    ap (λ zs. if is_used k lines then y ∷ zs else zs) (chosen_push (k + 1) ys x lines ∙ ap (λ n. chosen (k + 1) ys lines ++ one_if (is_used n lines) x) e)
    ∙ put_first (is_used k lines) (is_used (k + length (y ∷ ys)) lines) y x (chosen (k + 1) ys lines)

used_push : (k n : ℕ) (lines : List Line) → used_from k (n + 1) lines ≡ used_from k n lines ++ one_if (is_used (k + n) lines) (k + n)
used_push k zero lines = let e : k + 0 ≡ k = omega arith in ap (λ m. one_if (is_used m lines) m) (sym e)
used_push k (suc n) lines =
    let next : suc n + 1 ≡ suc (n + 1) = omega arith in
    let e : (k + 1) + n ≡ k + suc n = omega arith in
    ap (λ m. used_from k m lines) next
    ∙ (ap (λ zs. if is_used k lines then k ∷ zs else zs) (used_push (k + 1) n lines ∙ ap (λ m. used_from (k + 1) n lines ++ one_if (is_used m lines) m) e)
    ∙ put_first (is_used k lines) (is_used (k + suc n) lines) k (k + suc n) (used_from (k + 1) n lines))

-- at most as many numbers are used as there are
pub used_few : (k n : ℕ) (lines : List Line) → length (used_from k n lines) ≤ n
used_few k zero lines = omega arith
used_few k (suc n) lines =
    cond_both (is_used k lines) (k ∷ used_from (k + 1) n lines) (used_from (k + 1) n lines) (λ xs. length xs ≤ suc n) (λ _. omega (arith, used_few (k + 1) n lines)) (λ _. omega (arith, used_few (k + 1) n lines))

-- one turn over the numbers of rows
module _ (k : ℕ) (lines : List Line) (used : List ℕ) (so_far : used ≡ used_from 1 k lines) where
  numbers_more : (b : Bool) → is_used (k + 1) lines ≡ b → used_from 1 (k + 1) lines ≡ used ++ one_if b (k + 1)
  numbers_more b is =
      let e : 1 + k ≡ k + 1 = omega arith in
      used_push 1 k lines ∙ (ap (λ m. used_from 1 k lines ++ one_if (is_used m lines) m) e ∙ (λ i. sym so_far i ++ one_if (is i) (k + 1)))

  pub numbers_used : (is : Bool) (used' : List ℕ) → is ≡ is_used (k + 1) lines → is ≡ true → used' ≡ used ++ (k + 1) ∷ [] → used' ≡ used_from 1 (k + 1) lines
  numbers_used is used' e h push = push ∙ sym (numbers_more true (sym e ∙ h))

  pub numbers_unused : (is : Bool) → is ≡ is_used (k + 1) lines → is ≡ false → used ≡ used_from 1 (k + 1) lines
  numbers_unused is e h = sym (append-nil used) ∙ sym (numbers_more false (sym e ∙ h))

-- and over their names
module _ (hyps : ℕ) (names : List RowName) (lines : List Line) (at : ℕ) (d : RowName) (within : at < length names) (out : List RowName)
    (so_far : out ≡ map (name_among hyps) (chosen 1 (take at names) lines)) where
  names_more : (b : Bool) → is_used (at + 1) lines ≡ b → map (name_among hyps) (chosen 1 (take (at + 1) names) lines) ≡ out ++ map (name_among hyps) (one_if b (get_or names at d))
  names_more b is =
      let e : 1 + length (take at names) ≡ at + 1 = omega (arith, length-take-le at names (omega arith)) in
      let more : take (at + 1) names ≡ take at names ++ get_or names at d ∷ [] = take_more names at d within in
      ap (λ ns. map (name_among hyps) (chosen 1 ns lines)) more
      ∙ (ap (map (name_among hyps)) (chosen_push 1 (take at names) (get_or names at d) lines ∙ ap (λ m. chosen 1 (take at names) lines ++ one_if (is_used m lines) (get_or names at d)) e)
      ∙ (map-append (name_among hyps) (chosen 1 (take at names) lines) (one_if (is_used (at + 1) lines) (get_or names at d)) ∙ (λ i. sym so_far i ++ map (name_among hyps) (one_if (is i) (get_or names at d)))))

  pub names_used : (is : Bool) (out' : List RowName) (added : RowName) → is ≡ is_used (at + 1) lines → is ≡ true → added ≡ name_among hyps (get_or names at d) → out' ≡ out ++ added ∷ [] →
      out' ≡ map (name_among hyps) (chosen 1 (take (at + 1) names) lines)
  names_used is out' added e h called push = push ∙ (ap (λ n. out ++ n ∷ []) called ∙ sym (names_more true (sym e ∙ h)))

  pub names_unused : (is : Bool) → is ≡ is_used (at + 1) lines → is ≡ false → out ≡ map (name_among hyps) (chosen 1 (take (at + 1) names) lines)
  names_unused is e h = sym (append-nil out) ∙ sym (names_more false (sym e ∙ h))

pub chosen_map : {A B : Type 0} (f : A → B) (k : ℕ) (xs : List A) (lines : List Line) → chosen k (map f xs) lines ≡ map f (chosen k xs lines)
chosen_map f k [] lines = refl
chosen_map f k (x ∷ xs) lines = put (is_used k lines) (chosen_map f (k + 1) xs lines)
  where
    put : (b : Bool) → chosen (k + 1) (map f xs) lines ≡ map f (chosen (k + 1) xs lines) → (if b then f x ∷ chosen (k + 1) (map f xs) lines else chosen (k + 1) (map f xs) lines) ≡ map f (if b then x ∷ chosen (k + 1) xs lines else chosen (k + 1) xs lines)
    put true e = ap (λ ys. f x ∷ ys) e
    put false e = e

slice_get_between : {A : Type 0} (xs : List A) (x : A) (ys : List A) → slice_get (xs ++ x ∷ ys) (length xs) ≡ Some x
slice_get_between [] x ys = refl
slice_get_between (y ∷ xs) x ys = slice_get_between xs x ys

-- the names that are chosen are those of the rows that are used
chosen_names : (s : Sequent) (sums : List Sum) (k : ℕ) (before rest : List Sum) (lines : List Line) → k ≡ length before + 1 → before ++ rest ≡ sums →
    names_at s sums (used_from k (length rest) lines) ≡ map (name_among (length s.hyps)) (chosen k (map (λ r. r.name) rest) lines)
chosen_names s sums k before [] lines e f = refl
chosen_names s sums k before (r ∷ rest) lines e f =
    put (is_used k lines) (chosen_names s sums (k + 1) (before ++ r ∷ []) rest lines (omega (arith, length-append before (r ∷ []))) (append_assoc before (r ∷ []) rest ∙ f))
  where
    at : slice_get sums (length before) ≡ Some r
    at = ap (λ xs. slice_get xs (length before)) (sym f) ∙ slice_get_between before r rest

    put : (b : Bool) → names_at s sums (used_from (k + 1) (length rest) lines) ≡ map (name_among (length s.hyps)) (chosen (k + 1) (map (λ r. r.name) rest) lines) →
        names_at s sums (if b then k ∷ used_from (k + 1) (length rest) lines else used_from (k + 1) (length rest) lines)
        ≡ map (name_among (length s.hyps)) (if b then r.name ∷ chosen (k + 1) (map (λ r. r.name) rest) lines else chosen (k + 1) (map (λ r. r.name) rest) lines)
    put true h =
        let next : k ≡ suc (length before) = omega arith in
        ap (λ m. names_at s sums (m ∷ used_from (k + 1) (length rest) lines)) next ∙ (names_more at ∙ ap (λ ns. name_among (length s.hyps) r.name ∷ ns) h)
      where
        names_more : slice_get sums (length before) ≡ Some r → names_at s sums (suc (length before) ∷ used_from (k + 1) (length rest) lines) ≡ name_among (length s.hyps) r.name ∷ names_at s sums (used_from (k + 1) (length rest) lines)
        names_more here = rw (here) refl
    put false h = h

-- the step of lines by the names of the rows
pub step_is : (s : Sequent) (sums : List Sum) (lines : List Line) → linear_step_of s (length sums) sums lines ≡ step_by (length s.hyps) (map (λ r. r.name) sums) lines
step_is s sums lines = at (is_alone lines)
  where
    names : names_at s sums (used_from 1 (length sums) lines) ≡ map (name_among (length s.hyps)) (chosen 1 (map (λ r. r.name) sums) lines)
    names = chosen_names s sums 1 [] sums lines refl refl

    over : ℕ → List Line
    over n = map (called_line n (used_from 1 n lines)) lines

    same : length sums ≡ length (map (λ (r : Sum). r.name) sums)
    same = sym (length-map sums (λ (r : Sum). r.name))

    at : (b : Bool) → (if b then step.Linear (names_at s sums (used_from 1 (length sums) lines)) [] else step.Linear (names_at s sums (used_from 1 (length sums) lines)) (over (length sums)))
        ≡ step.Linear (map (name_among (length s.hyps)) (chosen 1 (map (λ r. r.name) sums) lines)) (if b then [] else over (length (map (λ (r : Sum). r.name) sums)))
    at true = ap (λ ns. step.Linear ns []) names
    at false = λ i. step.Linear (names i) (over (same i))

few_table : (g : Gathered) → length g.atoms ≤ 63 → length g.sums ≤ 256 → is_table g ≡ true
few_table g few_atoms few_rows = and_from (leb (length g.atoms) 63) (leb (length g.sums) 256) (le-leb _ _ few_atoms) (le-leb _ _ few_rows)

-- the step by a table that is refuted
pub by_table_found : (s : Sequent) (t : RowTable) (lines : List Line) → IsTableOf (table_of s) t → refutation (length t.atoms) t.rows ≡ Some lines → by_linear s ≡ Some (step_by (length s.hyps) t.names lines)
by_table_found s t lines is found =
    let g : Gathered = table_of s in
    let few_rows : length g.sums ≤ 256 = omega (arith, is.few.rows, ap length is.rows, length-map g.sums (row_of g.atoms)) in
    let few_atoms : length g.atoms ≤ 63 = omega (arith, is.few.atoms, ap length is.atoms) in
    let refuted : refutation (length g.atoms) (rows_of g) ≡ Some lines = (λ i. refutation (length (sym is.atoms i)) (sym is.rows i)) ∙ found in
    cond-true (is_table g) (mapped (linear_step_of s (length g.sums) g.sums) (refutation (length g.atoms) (rows_of g))) None (few_table g few_atoms few_rows)
    ∙ (ap (mapped (linear_step_of s (length g.sums) g.sums)) refuted ∙ ap Some (step_is s g.sums lines ∙ ap (λ ns. step_by (length s.hyps) ns lines) (sym is.names)))

-- what is made of the rows of a sequent is its table
pub table_is : (s : Sequent) (sorts : List Sort) (formulas : List Term) (t : RowTable) → sorts ≡ sorts_of s → formulas ≡ s.hyps ++ negated_goal s.goal →
    (t.atoms ≡ (gathered 64 sorts formulas).atoms) × (t.rows ≡ rows_of (gathered 64 sorts formulas)) × (t.names ≡ names_of (gathered 64 sorts formulas)) →
    IsTable t → IsTableOf (table_of s) t
table_is s sorts formulas t e f is few =
    let same : gathered 64 sorts formulas ≡ table_of s = λ i. gathered 64 (e i) (f i) in
    record {
      atoms = is.0 ∙ ap (λ (g : Gathered). g.atoms) same;
      rows = is.1 ∙ ap rows_of same;
      names = is.2 ∙ ap names_of same;
      few = few;
    }
