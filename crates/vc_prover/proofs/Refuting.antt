-- The step of a refutation is allowed.
use Rattle.std.proofs.Common.{◌≡◌, ◌∙◌, sym, ap, refl, subst, ℕ, ◌+◌, ◌≤◌, ◌==◌, leb, Bool, true, false, List, [], ◌∷◌, ◌++◌, length, map, ℤ, pos, Some, None, ⊎_elim, arith}
use Rattle.std.specs.Prelude.{if◌then◌else◌}
use Rattle.std.proofs.lemmas.Bool.{and_parts, and_from, cases_Bool, cond-true, cond-false, eqb-true, leb-true, le-leb, false≢true}
use Rattle.std.proofs.lemmas.List.{length-map}
use Rattle.std.proofs.lemmas.Simd.{map-map}
use Rattle.std.proofs.lemmas.Option.{same_Some}
use Rattle.math_terms.specs.declared.name.Line.{Line}
use Rattle.math_terms.specs.declared.name.RowName.{RowName}
use Rattle.math_terms.specs.declared.term.Term.{Term}
use Rattle.num_theory.specs.Laws.{RowsFit}
use Rattle.num_theory.specs.Lines.{ends_in_contradiction, is_contradiction, refutes}
use Rattle.num_theory.specs.Naming.{columns, find_rows, name_among, negated_goal, occurs, refuted_by, rows_at_hand, rows_refute}
use Rattle.num_theory.specs.Table as rows
use Rattle.num_theory.specs.Table.{Gathered, Sum, gathered, row_of, rows_of}
use Rattle.linear_prover.specs.Elimination.{eliminate_from, first_line, found, numbered_from, or_else, refutation}
use Rattle.linear_prover.specs.Laws.{RefutationsRefute}
use Rattle.vc_sequents.specs.declared.sequent.Sequent.{Sequent}
use Rattle.vc_sequents.specs.Splitting.{sorts_of}
use Rattle.cert_form.specs.declared.cert.Step.{Step}
use Rattle.cert_check.specs.Legality.{gives, linear_step, when}
use Rattle.vc_prover.specs.Search.{by_linear, called_line, is_alone, is_table, linear_step_of, mapped, table_of, used_from}
use Rattle.vc_prover.specs.working.Answers.{chosen, lines_over, step_by}
use Rattle.vc_prover.proofs.Allowing.{mapped_some}
use Rattle.vc_prover.proofs.Choosing.{chosen_map, step_is}
use Rattle.vc_prover.proofs.Columns.{columns_few}
use Rattle.vc_prover.proofs.Enough.{rows_at_hand_is}
use Rattle.vc_prover.proofs.Names.{chosen_found}
use Rattle.vc_prover.proofs.Replay.{alone_refuted, used_refuted}

-- a table whose last row is a contradiction has a first line
line_of_last : (k : ℕ) (rows : List (List ℤ)) → ends_in_contradiction rows ≡ true → (l : Line) × (first_line k rows ≡ Some (l ∷ []))
line_of_last k [] h = absurd (false≢true h)
line_of_last k (row ∷ []) h =
    let l : Line = record { p = pos 1; i = k; q = pos 0; j = k } in
    (l, cond-true (is_contradiction row) (Some (l ∷ [])) (first_line (k + 1) []) h)
line_of_last k (row ∷ next ∷ rows) h =
    let l : Line = record { p = pos 1; i = k; q = pos 0; j = k } in
    let rest = line_of_last (k + 1) (next ∷ rows) h in
    ⊎_elim
    (λ (is : is_contradiction row ≡ true). let P : Line → Type 0 = λ m. first_line k (row ∷ next ∷ rows) ≡ Some (m ∷ []) in let t : (m : Line) × P m = (l, cond-true (is_contradiction row) (Some (l ∷ [])) (first_line (k + 1) (next ∷ rows)) is) in t)
    (λ (no : is_contradiction row ≡ false). let P : Line → Type 0 = λ m. first_line k (row ∷ next ∷ rows) ≡ Some (m ∷ []) in let t : (m : Line) × P m = (rest.0, cond-false (is_contradiction row) (Some (l ∷ [])) (first_line (k + 1) (next ∷ rows)) no ∙ rest.1) in t)
    (cases_Bool (is_contradiction row))

some_lines : (atoms : ℕ) (rows : List (List ℤ)) → refutation atoms rows ≡ Some [] → refutes rows [] ≡ true → ⊥
some_lines atoms rows e h =
    let first = line_of_last 1 rows h in
    let clash : Some (first.0 ∷ []) ≡ Some [] =
    ap (λ o. or_else o (found (length rows) (eliminate_from (length rows) atoms 0 (numbered_from 0 rows) []))) (sym first.1) ∙ e in
    let empty : first.0 ∷ [] ≡ [] = same_Some (first.0 ∷ []) [] clash in
    absurd (let lengths : 1 ≡ 0 = ap length empty in omega (arith, lengths))

module _ (atoms : List Term) (sums : List Sum) (n : ℕ) (same : n ≡ length sums) where
  abbrev refuted_in_columns : List Line → List Line → Type 0
  refuted_in_columns lines over = refutes (map (row_of (columns atoms (chosen 1 sums lines))) (chosen 1 sums lines)) over ≡ true

  called_refuted : (l : Line) (ls : List Line) → refutes (map (row_of atoms) sums) (l ∷ ls) ≡ true → refuted_in_columns (l ∷ ls) (map (called_line n (used_from 1 n (l ∷ ls))) (l ∷ ls))
  called_refuted l ls h =
      ap (λ m. refutes (map (row_of (columns atoms (chosen 1 sums (l ∷ ls)))) (chosen 1 sums (l ∷ ls))) (map (called_line m (used_from 1 m (l ∷ ls))) (l ∷ ls))) same ∙ used_refuted atoms sums l ls h

  one_refuted : (l : Line) (b : Bool) → (l.i == l.j) ≡ b → refutes (map (row_of atoms) sums) (l ∷ []) ≡ true →
      refuted_in_columns (l ∷ []) (if b then [] else map (called_line n (used_from 1 n (l ∷ []))) (l ∷ []))
  one_refuted l true is h = alone_refuted atoms sums l (eqb-true l.i l.j is) h
  one_refuted l false is h = called_refuted l [] h

  over_refuted : (lines : List Line) → (lines ≡ [] → ⊥) → refutes (map (row_of atoms) sums) lines ≡ true →
      refuted_in_columns lines (if is_alone lines then [] else map (called_line n (used_from 1 n lines)) lines)
  over_refuted [] some h = absurd (some refl)
  over_refuted (l ∷ []) some h = one_refuted l (l.i == l.j) refl h
  over_refuted (l ∷ m ∷ ls) some h = called_refuted l (m ∷ ls) h

module _ (law : RefutationsRefute) (fit : RowsFit) (s : Sequent) where
  abbrev table : Gathered
  table = table_of s

  abbrev row_names : List RowName
  row_names = map (λ r. r.name) table.sums

  lines_pass : (lines : List Line) → length table.atoms ≤ 63 → length table.sums ≤ 256 → refutation (length table.atoms) (rows_of table) ≡ Some lines →
      rows_refute table.atoms (lines_over row_names lines) (chosen 1 table.sums lines) ≡ true
  lines_pass lines few_atoms few_rows e =
      let is = fit 64 (sorts_of s) (s.hyps ++ negated_goal s.goal) (few_atoms, few_rows) in
      let refuted : refutes (rows_of table) lines ≡ true = law (rows.table_of table) lines is e in
      let P : List Line → Type 0 = λ ls. refutes (rows_of table) ls ≡ true in
      let some : lines ≡ [] → ⊥ = λ none. some_lines (length table.atoms) (rows_of table) (e ∙ ap Some none) (subst P none refuted) in
      let columns_are : length (columns table.atoms (chosen 1 table.sums lines)) ≤ 63 = omega (arith, columns_few (occurs (chosen 1 table.sums lines)) table.atoms, few_atoms) in
      and_from (leb (length (columns table.atoms (chosen 1 table.sums lines))) 63)
      (refutes (map (row_of (columns table.atoms (chosen 1 table.sums lines))) (chosen 1 table.sums lines)) (lines_over row_names lines))
      (le-leb _ _ columns_are)
      (over_refuted table.atoms table.sums (length row_names) (length-map table.sums (λ (r : Sum). r.name)) lines some refuted)

  names_are : (lines : List Line) → map (name_among (length s.hyps)) (chosen 1 row_names lines) ≡ map (λ (r : Sum). name_among (length s.hyps) r.name) (chosen 1 table.sums lines)
  names_are lines = ap (map (name_among (length s.hyps))) (chosen_map (λ (r : Sum). r.name) 1 table.sums lines) ∙ map-map (name_among (length s.hyps)) (λ (r : Sum). r.name) (chosen 1 table.sums lines)

  test_passes : (lines : List Line) → length table.atoms ≤ 63 → length table.sums ≤ 256 → refutation (length table.atoms) (rows_of table) ≡ Some lines →
      linear_step s (map (name_among (length s.hyps)) (chosen 1 row_names lines)) (lines_over row_names lines) ≡ true
  test_passes lines few_atoms few_rows e =
      let at_hand : rows_at_hand (sorts_of s) s.hyps s.goal ≡ table = rows_at_hand_is (sorts_of s) (s.hyps ++ negated_goal s.goal) few_atoms in
      let rows : find_rows (length s.hyps) table.sums (map (name_among (length s.hyps)) (chosen 1 row_names lines)) ≡ Some (chosen 1 table.sums lines) =
      ap (find_rows (length s.hyps) table.sums) (names_are lines) ∙ chosen_found (length s.hyps) 64 (sorts_of s) (s.hyps ++ negated_goal s.goal) lines in
      ap (λ (g : Gathered). refuted_by g.atoms (lines_over row_names lines) (find_rows (length s.hyps) g.sums (map (name_among (length s.hyps)) (chosen 1 row_names lines)))) at_hand
      ∙ (ap (refuted_by table.atoms (lines_over row_names lines)) rows ∙ lines_pass lines few_atoms few_rows e)

  from_rows : (b : Bool) (x : Step) → is_table table ≡ b → (if b then mapped (linear_step_of s (length table.sums) table.sums) (refutation (length table.atoms) (rows_of table)) else None) ≡ Some x →
      gives x s ≡ Some []
  from_rows true x is e =
      let few = and_parts (leb (length table.atoms) 63) (leb (length table.sums) 256) is in
      let lines = mapped_some (linear_step_of s (length table.sums) table.sums) (refutation (length table.atoms) (rows_of table)) x e in
      let made : step_by (length s.hyps) row_names lines.0 ≡ x = sym (step_is s table.sums lines.0) ∙ lines.2 in
      let P : Step → Type 0 = λ y. gives y s ≡ Some [] in
      subst P made (ap when (test_passes lines.0 (leb-true _ _ few.0) (leb-true _ _ few.1) lines.1))
  from_rows false x is e = cc

  pub linear_gives : (x : Step) → by_linear s ≡ Some x → gives x s ≡ Some []
  linear_gives x e = from_rows (is_table table) x refl e
