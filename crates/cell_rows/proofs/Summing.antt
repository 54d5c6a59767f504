-- The sums of formulas and facts as rows with names.
use Rattle.std.proofs.Common.{◌≡◌, ◌∙◌, sym, ap, refl, subst, ℕ, zero, suc, ◌+◌, ℤ, pos, negsuc, ◌+ℤ◌, Bool, true, false, ◌&&◌, List, [], ◌∷◌, ◌++◌, length, Option, Some, None, if◌then◌else◌, arith}
use Rattle.std.specs.List.{AllByRecursion}
use Rattle.std.proofs.lemmas.List.{append-nil, append_assoc}
use Rattle.math_terms.specs.declared.name.RowName.{RowName}
use Rattle.math_terms.specs.declared.name.RowName.TheVariants.{Hyp, Second, Atom}
use Rattle.math_terms.specs.declared.descriptor.Sort.{Sort}
use Rattle.math_terms.specs.declared.term.Term.{Term}
use Rattle.math_terms.specs.declared.term.Term.TheOpen.{Term-F}
use Rattle.math_terms.specs.declared.term.Term.TheViews.{out-Term, roll-Term, out-roll-Term}
use Rattle.math_terms.specs.Kinds.{kind}
use Rattle.math_terms.specs.Sorts.{is_z}
use Rattle.num_theory.specs.Lines.{narrow}
use Rattle.num_theory.specs.Linear.{linear_of}
use Rattle.num_theory.specs.Naming.{negated_goal}
use Rattle.num_theory.specs.Table.{Sum, atoms_of, difference, facts_at, facts_by, facts_of, last_of, less_eq, multiple_of, num, sums_at, sums_from, sums_of, sums_of_equation, sums_of_fact, sums_of_facts, sums_of_form, with_atoms}
use Rattle.cell_rows.specs.working.Atoms.{with_fact_rows, with_row}
use Rattle.cell_rows.specs.working.Facts.{literal_of}
use Rattle.cell_rows.specs.RowsStand.{Row, difference_row, equation_row, fact_row, first_row, first_row_at, goal_row, second_row, second_row_at, shifted}
use Rattle.cell_rows.proofs.Quotients.{over_literal}

-- the sum of a row that there may be
abbrev pub named : RowName → Option Row → List Sum
named name None = []
named name (Some r) = record { name = name; products = r.0; constant = r.1 } ∷ []

form_named : (name : RowName) (shift : ℤ) (o : Option Row) → sums_of_form name shift o ≡ named name (shifted shift o)
form_named name shift None = refl
form_named name shift (Some f) = by_test (narrow (f.1 +ℤ shift))
  where
    by_test : (b : Bool) → (if b then record { name = name; products = f.0; constant = f.1 +ℤ shift } ∷ [] else []) ≡ named name (if b then Some (f.0, f.1 +ℤ shift) else None)
    by_test true = refl
    by_test false = refl

pub difference_named : (name : RowName) (shift : ℤ) (left right : Term) → difference name shift left right ≡ named name (difference_row shift left right)
difference_named name shift left right = form_named name shift (linear_of (roll-Term (Term-F.Sub right left)))

module _ (vars : List Sort) (k : ℕ) where
  one_named : (shift : ℤ) (left right : Term) → difference (Hyp k) shift left right ≡ named (Hyp k) (difference_row shift left right) ++ []
  one_named shift left right = difference_named (Hyp k) shift left right ∙ sym (append-nil (named (Hyp k) (difference_row shift left right)))

  equation_named : (a b : Term) → sums_of_equation vars k a b ≡ named (Hyp k) (equation_row vars a b (difference_row (pos 0) a b)) ++ named (Second k) (equation_row vars a b (difference_row (pos 0) b a))
  equation_named a b = by_test (is_z (kind vars a) && is_z (kind vars b))
    where
      by_test : (t : Bool) → (if t then difference (Hyp k) (pos 0) a b ++ difference (Second k) (pos 0) b a else [])
          ≡ named (Hyp k) (if t then difference_row (pos 0) a b else None) ++ named (Second k) (if t then difference_row (pos 0) b a else None)
      by_test true = λ i. difference_named (Hyp k) (pos 0) a b i ++ difference_named (Second k) (pos 0) b a i
      by_test false = refl

  node_named : (x : Term-F Term) → sums_at vars k x ≡ named (Hyp k) (first_row_at vars x) ++ named (Second k) (second_row_at vars x)
  node_named (Term-F.Eq x y) = equation_named x y
  node_named (Term-F.Less x y) = one_named (negsuc 0) x y
  node_named (Term-F.LessEq x y) = one_named (pos 0) x y
  node_named x = refl

  pub formula_named : (f : Term) → sums_of vars k f ≡ named (Hyp k) (first_row vars f) ++ named (Second k) (second_row vars f)
  formula_named f = node_named (out-Term f)

  compared_named : (x : Term-F Term) (row : Option Row) → first_row_at vars x ≡ row → second_row_at vars x ≡ None → sums_from vars k (roll-Term x ∷ []) ≡ named (Hyp k) row
  compared_named x row first second =
      append-nil (sums_of vars k (roll-Term x)) ∙ formula_named (roll-Term x)
      ∙ (λ i. named (Hyp k) (first_row_at vars (out-roll-Term x i)) ++ named (Second k) (second_row_at vars (out-roll-Term x i)))
      ∙ (λ i. named (Hyp k) (first i) ++ named (Second k) (second i)) ∙ append-nil (named (Hyp k) row)

  goal_by : (g : Term) (x : Term-F Term) → out-Term g ≡ x → sums_from vars k (negated_goal g) ≡ named (Hyp k) (goal_row g)
  goal_by g (Term-F.Less x y) e = rw e (compared_named (Term-F.LessEq y x) (difference_row (pos 0) y x) refl refl)
  goal_by g (Term-F.LessEq x y) e = rw e (compared_named (Term-F.Less y x) (difference_row (negsuc 0) y x) refl refl)
  goal_by g x e = rw e refl

  pub goal_named : (g : Term) → sums_from vars k (negated_goal g) ≡ named (Hyp k) (goal_row g)
  goal_named g = goal_by g (out-Term g) refl

pub sums_append : (vars : List Sort) (k : ℕ) (fs gs : List Term) → sums_from vars k (fs ++ gs) ≡ sums_from vars k fs ++ sums_from vars (k + length fs) gs
sums_append vars k [] gs =
    let same : k ≡ k + 0 = omega arith in
    ap (λ n. sums_from vars n gs) same
sums_append vars k (f ∷ fs) gs =
    let same : k + 1 + length fs ≡ k + suc (length fs) = omega arith in
    ap (λ ss. sums_of vars k f ++ ss) (sums_append vars (k + 1) fs gs) ∙ sym (append_assoc (sums_of vars k f) (sums_from vars (k + 1) fs) (sums_from vars (k + 1 + length fs) gs))
    ∙ ap (λ n. sums_of vars k f ++ sums_from vars (k + 1) fs ++ sums_from vars n gs) same

-- atoms along sums
pub atoms_append : (ts : List Term) (xs ys : List Sum) → atoms_of ts (xs ++ ys) ≡ atoms_of (atoms_of ts xs) ys
atoms_append ts [] ys = refl
atoms_append ts (s ∷ xs) ys = atoms_append (with_atoms ts s.products) xs ys

pub atoms_named : (ts : List Term) (name : RowName) (row : Option Row) → atoms_of ts (named name row) ≡ with_row ts row
atoms_named ts name None = refl
atoms_named ts name (Some r) = refl

pub formula_atoms : (vars : List Sort) (k : ℕ) (ts : List Term) (f : Term) → with_row (with_row ts (first_row vars f)) (second_row vars f) ≡ atoms_of ts (sums_of vars k f)
formula_atoms vars k ts f =
    sym (ap (atoms_of ts) (formula_named vars k f) ∙ atoms_append ts (named (Hyp k) (first_row vars f)) (named (Second k) (second_row vars f))
    ∙ ap (λ x. atoms_of x (named (Second k) (second_row vars f))) (atoms_named ts (Hyp k) (first_row vars f))
    ∙ atoms_named (with_row ts (first_row vars f)) (Second k) (second_row vars f))

-- facts compare two sides
pub IsCompared : Term → Type 0
IsCompared f = (a : Term) × ((b : Term) × (f ≡ less_eq a b))

by_compared : (atom t : Term) (n : ℤ) → AllByRecursion IsCompared (facts_by atom t n)
unfolding IsCompared
by_compared atom t (pos zero) = tt
by_compared atom t (pos (suc n)) = ((multiple_of (pos (suc n)) atom, (t, refl)), ((t, (last_of (pos (suc n)) atom, refl)), tt))
by_compared atom t (negsuc n) = tt

facts_compared_at : (atom : Term) (x : Term-F Term) → AllByRecursion IsCompared (facts_at atom x)
unfolding IsCompared
facts_compared_at atom (Term-F.Div x y) = subst (AllByRecursion IsCompared) (sym (over_literal atom x (out-Term y))) (by_compared atom x (literal_of (out-Term y)))
facts_compared_at atom (Term-F.Len x) = ((num (pos 0), (atom, refl)), tt)
facts_compared_at atom x = tt

pub facts_compared : (t : Term) → AllByRecursion IsCompared (facts_of t)
facts_compared t = facts_compared_at t (out-Term t)

pub fact_named : (k : ℕ) (f : Term) → IsCompared f → sums_of_fact k f ≡ named (Atom k) (fact_row f)
unfolding IsCompared
fact_named k f h =
    let a = h.0 in
    let b = h.1.0 in
    let out : out-Term f ≡ Term-F.LessEq a b = ap out-Term h.1.1 ∙ out-roll-Term (Term-F.LessEq a b) in
    rw out (difference_named (Atom k) (pos 0) a b)

pub facts_atoms : (k : ℕ) (ts fs : List Term) → AllByRecursion IsCompared fs → with_fact_rows ts fs ≡ atoms_of ts (sums_of_facts k fs)
facts_atoms k ts [] h = refl
facts_atoms k ts (f ∷ fs) h =
    facts_atoms (k + 1) (with_row ts (fact_row f)) fs h.1
    ∙ ap (λ x. atoms_of x (sums_of_facts (k + 1) fs)) (sym (atoms_named ts (Atom k) (fact_row f)) ∙ ap (atoms_of ts) (sym (fact_named k f h.0)))
    ∙ sym (atoms_append ts (sums_of_fact k f) (sums_of_facts (k + 1) fs))
