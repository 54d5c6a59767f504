-- Rows by tests of their names.
use Rattle.std.proofs.Common.{◌≡◌, ◌∙◌, sym, ap, refl, ℕ, zero, suc, ◌+◌, ◌<◌, ◌≤◌, Bool, true, false, List, [], ◌∷◌, ◌++◌, length, take, drop, slice_get, Option, Some, None, option_and_then, if◌then◌else◌, arith}
use Rattle.std.specs.List.{AllByRecursion, flat_map, list_any}
use Rattle.math_terms.specs.Heads.{same_term}
use Rattle.std.proofs.lemmas.Bool.{ne_eqb, eq-eqb}
use Rattle.std.proofs.lemmas.List.{append-nil, append_assoc}
use Rattle.std.proofs.lemmas.Option.{slice_get_within}
use Rattle.math_terms.specs.declared.name.RowName.{RowName}
use Rattle.math_terms.specs.declared.name.RowName.TheVariants.{Hyp, Second, Atom, Goal}
use Rattle.math_terms.specs.declared.descriptor.Sort.{Sort}
use Rattle.math_terms.specs.declared.term.Term.{Term}
use Rattle.num_theory.specs.Linear.{Product}
use Rattle.num_theory.specs.Naming.{find_row, most_atoms, name_among, negated_goal, rows_at_hand, same_name}
use Rattle.num_theory.specs.Table.{Gathered, Sum, atoms_of, facts_of, sums_from, sums_of, sums_of_fact, sums_of_facts, with_all_facts, with_atom, with_atoms, with_facts}
use Rattle.cell_rows.specs.working.Finding.{numbered, row_by_name, row_of_some, unnamed}
use Rattle.cell_rows.specs.RowsStand.{Row, fact_row, first_row, goal_row, second_row}
use Rattle.cell_rows.proofs.Summing.{IsCompared, fact_named, facts_compared, formula_named, goal_named, named, sums_append}

pub past_from : {A : Type 0} (xs : List A) (i : ℕ) → slice_get xs i ≡ None → length xs ≤ i
past_from [] i e = omega arith
past_from (y ∷ xs) zero e = cc
past_from (y ∷ xs) (suc i) e = omega (arith, past_from xs i e)

-- the first row whose name passes a test
abbrev pub find_by : (RowName → Bool) → List Sum → Option Row
find_by test [] = None
find_by test (s ∷ ss) = if test s.name then Some (s.products, s.constant) else find_by test ss

abbrev pub or_else : Option Row → Option Row → Option Row
or_else None o = o
or_else (Some r) o = Some r

abbrev pub names : ℕ → RowName → RowName → Bool
names n name m = same_name name (name_among n m)

pub found_by : (n : ℕ) (name : RowName) (ss : List Sum) → unnamed (find_row n name ss) ≡ find_by (names n name) ss
found_by n name [] = refl
found_by n name (s ∷ ss) = by_test (names n name s.name) (found_by n name ss)
  where
    by_test : (b : Bool) → unnamed (find_row n name ss) ≡ find_by (names n name) ss → unnamed (if b then Some s else find_row n name ss) ≡ (if b then Some (s.products, s.constant) else find_by (names n name) ss)
    by_test true r = refl
    by_test false r = r

or_none : (o : Option Row) → or_else o None ≡ o
or_none None = refl
or_none (Some r) = refl

module _ (test : RowName → Bool) where
  pub find_append : (xs ys : List Sum) → find_by test (xs ++ ys) ≡ or_else (find_by test xs) (find_by test ys)
  find_append [] ys = refl
  find_append (s ∷ xs) ys = by_test (test s.name) (find_append xs ys)
    where
      by_test : (b : Bool) → find_by test (xs ++ ys) ≡ or_else (find_by test xs) (find_by test ys) →
          (if b then Some (s.products, s.constant) else find_by test (xs ++ ys)) ≡ or_else (if b then Some (s.products, s.constant) else find_by test xs) (find_by test ys)
      by_test true r = refl
      by_test false r = r

  pub find_other : (name : RowName) (row : Option Row) → test name ≡ false → find_by test (named name row) ≡ None
  find_other name None e = refl
  find_other name (Some r) e = ap (λ (b : Bool). if b then Some r else None) e

  pub find_it : (name : RowName) (row : Option Row) → test name ≡ true → find_by test (named name row) ≡ row
  find_it name None e = refl
  find_it name (Some r) e = ap (λ (b : Bool). if b then Some r else None) e

  module _ (vars : List Sort) where
    -- of one formula
    find_formula : (k : ℕ) (f : Term) (x y : Option Row) → find_by test (named (Hyp k) (first_row vars f)) ≡ x → find_by test (named (Second k) (second_row vars f)) ≡ y → find_by test (sums_of vars k f) ≡ or_else x y
    find_formula k f x y e g =
        ap (find_by test) (formula_named vars k f) ∙ find_append (named (Hyp k) (first_row vars f)) (named (Second k) (second_row vars f)) ∙ (λ i. or_else (e i) (g i))

    pub formula_other : (k : ℕ) (f : Term) → (test (Hyp k) ≡ false) × (test (Second k) ≡ false) → find_by test (sums_of vars k f) ≡ None
    formula_other k f h = find_formula k f None None (find_other (Hyp k) (first_row vars f) h.0) (find_other (Second k) (second_row vars f) h.1)

    pub formula_first : (k : ℕ) (f : Term) → test (Hyp k) ≡ true → test (Second k) ≡ false → find_by test (sums_of vars k f) ≡ first_row vars f
    formula_first k f e g = find_formula k f (first_row vars f) None (find_it (Hyp k) (first_row vars f) e) (find_other (Second k) (second_row vars f) g) ∙ or_none (first_row vars f)

    pub formula_second : (k : ℕ) (f : Term) → test (Hyp k) ≡ false → test (Second k) ≡ true → find_by test (sums_of vars k f) ≡ second_row vars f
    formula_second k f e g = find_formula k f None (second_row vars f) (find_other (Hyp k) (first_row vars f) e) (find_it (Second k) (second_row vars f) g)

    pub formulas_none : (k : ℕ) (fs : List Term) → ((q : ℕ) → k ≤ q → q < k + length fs → (test (Hyp q) ≡ false) × (test (Second q) ≡ false)) → find_by test (sums_from vars k fs) ≡ None
    formulas_none k [] h = refl
    formulas_none k (f ∷ fs) h =
        let here = formula_other k f (h k (omega arith) (omega arith)) in
        let rest = formulas_none (k + 1) fs (λ q l m. h q (omega arith) (omega arith)) in
        find_append (sums_of vars k f) (sums_from vars (k + 1) fs) ∙ (λ i. or_else (here i) (rest i))

    pub formulas_at : (k : ℕ) (fs : List Term) (i : ℕ) (f : Term) → slice_get fs i ≡ Some f →
        ((q : ℕ) → k ≤ q → q < k + length fs → (q ≡ k + i → ⊥) → (test (Hyp q) ≡ false) × (test (Second q) ≡ false)) → find_by test (sums_from vars k fs) ≡ find_by test (sums_of vars (k + i) f)
    formulas_at k [] i f e h = cc
    formulas_at k (g ∷ fs) zero f e h =
        let same : g ≡ f = cc in
        let place : k ≡ k + 0 = omega arith in
        let rest = formulas_none (k + 1) fs (λ q l m. h q (omega arith) (omega arith) (λ z. absurd (omega arith))) in
        find_append (sums_of vars k g) (sums_from vars (k + 1) fs) ∙ (λ i. or_else (find_by test (sums_of vars k g)) (rest i)) ∙ or_none (find_by test (sums_of vars k g))
        ∙ (λ i. find_by test (sums_of vars (place i) (same i)))
    formulas_at k (g ∷ fs) (suc i) f e h =
        let place : k + 1 + i ≡ k + suc i = omega arith in
        let here = formula_other k g (h k (omega arith) (omega arith) (λ z. absurd (omega arith))) in
        let rest = formulas_at (k + 1) fs i f e (λ q l m n. h q (omega arith) (omega arith) (λ z. n (omega arith))) in
        find_append (sums_of vars k g) (sums_from vars (k + 1) fs) ∙ (λ i. or_else (here i) (find_by test (sums_from vars (k + 1) fs))) ∙ rest ∙ ap (λ n. find_by test (sums_of vars n f)) place

  pub facts_none : (k : ℕ) (fs : List Term) → AllByRecursion IsCompared fs → ((q : ℕ) → k ≤ q → test (Atom q) ≡ false) → find_by test (sums_of_facts k fs) ≡ None
  facts_none k [] c h = refl
  facts_none k (f ∷ fs) c h =
      let here = ap (find_by test) (fact_named k f c.0) ∙ find_other (Atom k) (fact_row f) (h k (omega arith)) in
      let rest = facts_none (k + 1) fs c.1 (λ q l. h q (omega arith)) in
      find_append (sums_of_fact k f) (sums_of_facts (k + 1) fs) ∙ (λ i. or_else (here i) (rest i))

  pub facts_short : (k : ℕ) (fs : List Term) → AllByRecursion IsCompared fs → ((q : ℕ) → k ≤ q → q < k + length fs → test (Atom q) ≡ false) → find_by test (sums_of_facts k fs) ≡ None
  facts_short k [] c h = refl
  facts_short k (f ∷ fs) c h =
      let here = ap (find_by test) (fact_named k f c.0) ∙ find_other (Atom k) (fact_row f) (h k (omega arith) (omega arith)) in
      let rest = facts_short (k + 1) fs c.1 (λ q l m. h q (omega arith) (omega arith)) in
      find_append (sums_of_fact k f) (sums_of_facts (k + 1) fs) ∙ (λ i. or_else (here i) (rest i))

  pub facts_at_place : (k : ℕ) (fs : List Term) (i : ℕ) (f : Term) → AllByRecursion IsCompared fs → slice_get fs i ≡ Some f → test (Atom (k + i)) ≡ true → ((q : ℕ) → (q ≡ k + i → ⊥) → test (Atom q) ≡ false) →
      find_by test (sums_of_facts k fs) ≡ fact_row f
  facts_at_place k [] i f c e t h = cc
  facts_at_place k (g ∷ fs) zero f c e t h =
      let same : g ≡ f = cc in
      let place : k ≡ k + 0 = omega arith in
      let here = ap (find_by test) (fact_named k g c.0) ∙ find_it (Atom k) (fact_row g) (ap (λ n. test (Atom n)) place ∙ t) in
      let rest = facts_none (k + 1) fs c.1 (λ q l. h q (λ z. absurd (omega arith))) in
      find_append (sums_of_fact k g) (sums_of_facts (k + 1) fs) ∙ (λ i. or_else (here i) (rest i)) ∙ or_none (fact_row g) ∙ ap fact_row same
  facts_at_place k (g ∷ fs) (suc i) f c e t h =
      let place : k + 1 + i ≡ k + suc i = omega arith in
      let here = ap (find_by test) (fact_named k g c.0) ∙ find_other (Atom k) (fact_row g) (h k (λ z. absurd (omega arith))) in
      let rest = facts_at_place (k + 1) fs i f c.1 e (ap (λ n. test (Atom n)) place ∙ t) (λ q n. h q (λ z. n (omega arith))) in
      find_append (sums_of_fact k g) (sums_of_facts (k + 1) fs) ∙ (λ i. or_else (here i) (rest i))

-- lists that go on
extends : {A : Type 0} → List A → List A → Type 0
extends {A} xs ys = (more : List A) × (ys ≡ xs ++ more)

extends_both : {A : Type 0} (xs ys zs : List A) → extends xs ys → extends ys zs → extends xs zs
unfolding extends
extends_both xs ys zs h g = (h.0 ++ g.0, g.1 ∙ ap (λ l. l ++ g.0) h.1 ∙ append_assoc xs h.0 g.0)

atom_extends : (ts : List Term) (t : Term) → extends ts (with_atom ts t)
unfolding extends
atom_extends ts t = by_test (list_any (same_term t) ts)
  where
    by_test : (b : Bool) → (more : List Term) × ((if b then ts else ts ++ t ∷ []) ≡ ts ++ more)
    by_test true = ([], sym (append-nil ts))
    by_test false = (t ∷ [], refl)

products_extend : (ts : List Term) (ps : List Product) → extends ts (with_atoms ts ps)
unfolding extends
products_extend ts [] = ([], sym (append-nil ts))
products_extend ts (p ∷ ps) = extends_both ts (with_atom ts p.1) (with_atoms (with_atom ts p.1) ps) (atom_extends ts p.1) (products_extend (with_atom ts p.1) ps)

atoms_extend : (ts : List Term) (ss : List Sum) → extends ts (atoms_of ts ss)
unfolding extends
atoms_extend ts [] = ([], sym (append-nil ts))
atoms_extend ts (s ∷ ss) = extends_both ts (with_atoms ts s.products) (atoms_of (with_atoms ts s.products) ss) (products_extend ts s.products) (atoms_extend (with_atoms ts s.products) ss)

nothing_left : {A : Type 0} (xs : List A) (i : ℕ) → slice_get xs i ≡ None → drop i xs ≡ []
nothing_left [] zero e = refl
nothing_left [] (suc i) e = refl
nothing_left (x ∷ xs) zero e = cc
nothing_left (x ∷ xs) (suc i) e = nothing_left xs i e

next_left : {A : Type 0} (xs more : List A) (i : ℕ) (x : A) → slice_get xs i ≡ Some x → drop i (xs ++ more) ≡ x ∷ drop (i + 1) (xs ++ more)
next_left [] more i x e = cc
next_left (y ∷ xs) more zero x e =
    let same : y ≡ x = cc in
    ap (λ z. z ∷ (xs ++ more)) same
next_left (y ∷ xs) more (suc i) x e =
    let one : suc (i + 1) ≡ suc i + 1 = omega arith in
    next_left xs more i x e ∙ ap (λ n. x ∷ drop n (y ∷ (xs ++ more))) one

facts_append : (k : ℕ) (fs gs : List Term) → sums_of_facts k (fs ++ gs) ≡ sums_of_facts k fs ++ sums_of_facts (k + length fs) gs
facts_append k [] gs =
    let same : k ≡ k + 0 = omega arith in
    ap (λ n. sums_of_facts n gs) same
facts_append k (f ∷ fs) gs =
    let same : k + 1 + length fs ≡ k + suc (length fs) = omega arith in
    ap (λ ss. sums_of_fact k f ++ ss) (facts_append (k + 1) fs gs) ∙ sym (append_assoc (sums_of_fact k f) (sums_of_facts (k + 1) fs) (sums_of_facts (k + 1 + length fs) gs))
    ∙ ap (λ n. sums_of_fact k f ++ sums_of_facts (k + 1) fs ++ sums_of_facts n gs) same

-- the rows of facts come last, in the order of the atoms
record FactsLast (most i : ℕ) (g all : Gathered) : Type 0 where
  atoms_are : extends g.atoms all.atoms
  sums_are : all.sums ≡ g.sums ++ sums_of_facts (g.facts + 1) (flat_map facts_of (take most (drop i all.atoms)))

no_more_facts : (most i : ℕ) (g : Gathered) → take most (drop i g.atoms) ≡ [] → FactsLast most i g g
unfolding extends
no_more_facts most i g e = record {
  atoms_are = ([], sym (append-nil g.atoms));
  sums_are = sym (ap (λ ts. g.sums ++ sums_of_facts (g.facts + 1) (flat_map facts_of ts)) e ∙ append-nil g.sums);
}

facts_last : (most i : ℕ) (g : Gathered) → FactsLast most i g (with_all_facts most i g)
unfolding with_all_facts extends
facts_last zero i g = no_more_facts zero i g refl
facts_last (suc most) i g = by_atom (slice_get g.atoms i) refl (λ t. facts_last most (i + 1) (with_facts g t))
  where
    one_atom : (t : Term) (all : Gathered) → slice_get g.atoms i ≡ Some t → FactsLast most (i + 1) (with_facts g t) all → FactsLast (suc most) i g all
    one_atom t all e h =
        let grown = extends_both g.atoms (with_facts g t).atoms all.atoms (atoms_extend g.atoms (sums_of_facts (g.facts + 1) (facts_of t))) h.atoms_are in
        let next : drop i all.atoms ≡ t ∷ drop (i + 1) all.atoms = ap (drop i) grown.1 ∙ next_left g.atoms grown.0 i t e ∙ ap (λ l. t ∷ drop (i + 1) l) (sym grown.1) in
        let later = flat_map facts_of (take most (drop (i + 1) all.atoms)) in
        let count : g.facts + length (facts_of t) + 1 ≡ g.facts + 1 + length (facts_of t) = omega arith in
        record {
          atoms_are = grown;
          sums_are =
              h.sums_are ∙ append_assoc g.sums (sums_of_facts (g.facts + 1) (facts_of t)) (sums_of_facts (g.facts + length (facts_of t) + 1) later)
              ∙ ap (λ n. g.sums ++ (sums_of_facts (g.facts + 1) (facts_of t) ++ sums_of_facts n later)) count
              ∙ ap (λ ss. g.sums ++ ss) (sym (facts_append (g.facts + 1) (facts_of t) later))
              ∙ ap (λ ts. g.sums ++ sums_of_facts (g.facts + 1) (flat_map facts_of (take (suc most) ts))) (sym next);
        }

    by_atom : (o : Option Term) → slice_get g.atoms i ≡ o → ((t : Term) → FactsLast most (i + 1) (with_facts g t) (with_all_facts most (i + 1) (with_facts g t))) → FactsLast (suc most) i g (with_all_facts (suc most) i g)
    by_atom None e h = rw e (no_more_facts (suc most) i g (ap (take (suc most)) (nothing_left g.atoms i e)))
    by_atom (Some t) e h = rw e (one_atom t (with_all_facts most (i + 1) (with_facts g t)) e (h t))

-- the sums of a sequent: those of its hypotheses, that of its negated goal, and those of the facts
pub sequent_sums : (vars : List Sort) (hs : List Term) (g : Term) →
    (rows_at_hand vars hs g).sums ≡ sums_from vars 1 hs ++ named (Hyp (1 + length hs)) (goal_row g) ++ sums_of_facts 1 (flat_map facts_of (take most_atoms (rows_at_hand vars hs g).atoms))
sequent_sums vars hs g =
    let sums = sums_from vars 1 (hs ++ negated_goal g) in
    (facts_last most_atoms 0 (record { atoms = atoms_of [] sums; sums = sums; facts = 0 })).sums_are
    ∙ ap (λ ss. ss ++ sums_of_facts 1 (flat_map facts_of (take most_atoms (rows_at_hand vars hs g).atoms))) (sums_append vars 1 hs (negated_goal g) ∙ ap (λ ss. sums_from vars 1 hs ++ ss) (goal_named vars (1 + length hs) g))

-- the facts of many atoms compare two sides
all_append : (fs gs : List Term) → AllByRecursion IsCompared fs → AllByRecursion IsCompared gs → AllByRecursion IsCompared (fs ++ gs)
all_append [] gs h k = k
all_append (f ∷ fs) gs h k = (h.0, all_append fs gs h.1 k)

all_compared : (ts : List Term) → AllByRecursion IsCompared (flat_map facts_of ts)
all_compared [] = tt
all_compared (t ∷ ts) = all_append (facts_of t) (flat_map facts_of ts) (facts_compared t) (all_compared ts)

-- names among the hypotheses, that of the goal and those of facts
hyp_name : (n q : ℕ) → q < 1 + n → name_among n (Hyp q) ≡ Hyp q
hyp_name n q l = ap (λ (b : Bool). if b then Goal else Hyp q) (ne_eqb q (suc n) (λ e. absurd (omega arith)))

goal_name : (n : ℕ) → name_among n (Hyp (1 + n)) ≡ Goal
goal_name n = ap (λ (b : Bool). if b then Goal else Hyp (1 + n)) (eq-eqb (1 + n) (suc n) (omega arith))

module _ (vars : List Sort) (hs : List Term) (g : Term) where
  facts : List Term
  facts = flat_map facts_of (take most_atoms (rows_at_hand vars hs g).atoms)

  -- a row is found in one of the three parts
  parts : (name : RowName) (x y w : Option Row) → find_by (names (length hs) name) (sums_from vars 1 hs) ≡ x → find_by (names (length hs) name) (named (Hyp (1 + length hs)) (goal_row g)) ≡ y →
      find_by (names (length hs) name) (sums_of_facts 1 facts) ≡ w → row_by_name vars hs g name ≡ or_else (or_else x y) w
  unfolding facts
  parts name x y w e f h =
      let test = names (length hs) name in
      found_by (length hs) name (rows_at_hand vars hs g).sums ∙ ap (find_by test) (sequent_sums vars hs g)
      ∙ find_append test (sums_from vars 1 hs ++ named (Hyp (1 + length hs)) (goal_row g)) (sums_of_facts 1 facts)
      ∙ ap (λ o. or_else o (find_by test (sums_of_facts 1 facts))) (find_append test (sums_from vars 1 hs) (named (Hyp (1 + length hs)) (goal_row g)))
      ∙ (λ i. or_else (or_else (e i) (f i)) (h i))

  no_goal_row : (name : RowName) → same_name name Goal ≡ false → find_by (names (length hs) name) (named (Hyp (1 + length hs)) (goal_row g)) ≡ None
  no_goal_row name e = find_other (names (length hs) name) (Hyp (1 + length hs)) (goal_row g) (ap (same_name name) (goal_name (length hs)) ∙ e)

  no_facts : (name : RowName) → ((q : ℕ) → same_name name (Atom q) ≡ false) → find_by (names (length hs) name) (sums_of_facts 1 facts) ≡ None
  unfolding facts
  no_facts name h = facts_none (names (length hs) name) 1 facts (all_compared (take most_atoms (rows_at_hand vars hs g).atoms)) (λ q l. h q)

  no_hyps : (name : RowName) → ((q : ℕ) → 1 ≤ q → q < 1 + length hs → (same_name name (Hyp q) ≡ false) × (same_name name (Second q) ≡ false)) → find_by (names (length hs) name) (sums_from vars 1 hs) ≡ None
  no_hyps name h = formulas_none (names (length hs) name) vars 1 hs (λ q l m. (ap (same_name name) (hyp_name (length hs) q m) ∙ (h q l m).0, (h q l m).1))

  hyp_at : (name : RowName) (i : ℕ) (f : Term) → slice_get hs i ≡ Some f → ((q : ℕ) → 1 ≤ q → q < 1 + length hs → (q ≡ 1 + i → ⊥) → (same_name name (Hyp q) ≡ false) × (same_name name (Second q) ≡ false)) →
      find_by (names (length hs) name) (sums_from vars 1 hs) ≡ find_by (names (length hs) name) (sums_of vars (1 + i) f)
  hyp_at name i f e h = formulas_at (names (length hs) name) vars 1 hs i f e (λ q l m n. (ap (same_name name) (hyp_name (length hs) q m) ∙ (h q l m n).0, (h q l m n).1))

  pub of_goal : row_by_name vars hs g Goal ≡ goal_row g
  of_goal =
      parts Goal None (goal_row g) None (no_hyps Goal (λ q l m. (refl, refl)))
      (find_it (names (length hs) Goal) (Hyp (1 + length hs)) (goal_row g) (ap (same_name Goal) (goal_name (length hs)))) (no_facts Goal (λ q. refl))
      ∙ or_none (goal_row g)

  alone : (name : RowName) (x : Option Row) → find_by (names (length hs) name) (sums_from vars 1 hs) ≡ x → same_name name Goal ≡ false → ((q : ℕ) → same_name name (Atom q) ≡ false) → row_by_name vars hs g name ≡ x
  alone name x e f h = parts name x None None e (no_goal_row name f) (no_facts name h) ∙ or_none (or_else x None) ∙ or_none x

  pub of_hyp : (k : ℕ) → row_by_name vars hs g (Hyp k) ≡ option_and_then (first_row vars) (numbered hs k)
  of_hyp zero = alone (Hyp 0) None (no_hyps (Hyp 0) (λ q l m. (ne_eqb 0 q (λ e. absurd (omega arith)), refl))) refl (λ q. refl)
  of_hyp (suc i) = by_place (slice_get hs i) refl
    where
      by_place : (o : Option Term) → slice_get hs i ≡ o → row_by_name vars hs g (Hyp (suc i)) ≡ option_and_then (first_row vars) (slice_get hs i)
      by_place None e =
          let past = past_from hs i e in
          alone (Hyp (suc i)) None (no_hyps (Hyp (suc i)) (λ q l m. (ne_eqb (suc i) q (λ z. absurd (omega arith)), refl))) refl (λ q. refl) ∙ sym (ap (option_and_then (first_row vars)) e)
      by_place (Some f) e =
          let inside = slice_get_within hs i f e in
          let test = names (length hs) (Hyp (suc i)) in
          let one : suc i ≡ 1 + i = omega arith in
          let it : test (Hyp (1 + i)) ≡ true = ap (same_name (Hyp (suc i))) (hyp_name (length hs) (1 + i) (omega arith)) ∙ eq-eqb (suc i) (1 + i) one in
          alone (Hyp (suc i)) (first_row vars f)
          (hyp_at (Hyp (suc i)) i f e (λ q l m n. (ne_eqb (suc i) q (λ z. absurd (n (omega arith))), refl)) ∙ formula_first test vars (1 + i) f it refl) refl (λ q. refl)
          ∙ sym (ap (option_and_then (first_row vars)) e)

  pub of_second : (k : ℕ) → row_by_name vars hs g (Second k) ≡ option_and_then (second_row vars) (numbered hs k)
  of_second zero = alone (Second 0) None (no_hyps (Second 0) (λ q l m. (refl, ne_eqb 0 q (λ e. absurd (omega arith))))) refl (λ q. refl)
  of_second (suc i) = by_place (slice_get hs i) refl
    where
      by_place : (o : Option Term) → slice_get hs i ≡ o → row_by_name vars hs g (Second (suc i)) ≡ option_and_then (second_row vars) (slice_get hs i)
      by_place None e =
          let past = past_from hs i e in
          alone (Second (suc i)) None (no_hyps (Second (suc i)) (λ q l m. (refl, ne_eqb (suc i) q (λ z. absurd (omega arith))))) refl (λ q. refl) ∙ sym (ap (option_and_then (second_row vars)) e)
      by_place (Some f) e =
          let inside = slice_get_within hs i f e in
          let test = names (length hs) (Second (suc i)) in
          let one : suc i ≡ 1 + i = omega arith in
          let other : test (Hyp (1 + i)) ≡ false = ap (same_name (Second (suc i))) (hyp_name (length hs) (1 + i) (omega arith)) in
          alone (Second (suc i)) (second_row vars f)
          (hyp_at (Second (suc i)) i f e (λ q l m n. (refl, ne_eqb (suc i) q (λ z. absurd (n (omega arith))))) ∙ formula_second test vars (1 + i) f other (eq-eqb (suc i) (1 + i) one)) refl (λ q. refl)
          ∙ sym (ap (option_and_then (second_row vars)) e)

  of_facts : (name : RowName) (w : Option Row) → ((q : ℕ) → (same_name name (Hyp q) ≡ false) × (same_name name (Second q) ≡ false)) → same_name name Goal ≡ false → find_by (names (length hs) name) (sums_of_facts 1 facts) ≡ w → row_by_name vars hs g name ≡ w
  of_facts name w h e f = parts name None None w (no_hyps name (λ q l m. h q)) (no_goal_row name e) f

  pub of_atom : (k : ℕ) → row_by_name vars hs g (Atom k) ≡ row_of_some (numbered (flat_map facts_of (take most_atoms (rows_at_hand vars hs g).atoms)) k)
  unfolding facts
  of_atom zero = of_facts (Atom 0) None (λ q. (refl, refl)) refl (facts_none (names (length hs) (Atom 0)) 1 facts (all_compared (take most_atoms (rows_at_hand vars hs g).atoms)) (λ q l. ne_eqb 0 q (λ e. absurd (omega arith))))
  of_atom (suc i) = of_facts (Atom (suc i)) (row_of_some (slice_get facts i)) (λ q. (refl, refl)) refl (by_place (slice_get facts i) refl)
    where
      compared : AllByRecursion IsCompared (flat_map facts_of (take most_atoms (rows_at_hand vars hs g).atoms))
      compared = all_compared (take most_atoms (rows_at_hand vars hs g).atoms)

      by_place : (o : Option Term) → slice_get facts i ≡ o → find_by (names (length hs) (Atom (suc i))) (sums_of_facts 1 facts) ≡ row_of_some (slice_get facts i)
      by_place None e = facts_short (names (length hs) (Atom (suc i))) 1 facts compared (λ q l m. ne_eqb (suc i) q (λ z. absurd (omega (arith, past_from facts i e)))) ∙ sym (ap row_of_some e)
      by_place (Some f) e =
          let one : suc i ≡ 1 + i = omega arith in
          facts_at_place (names (length hs) (Atom (suc i))) 1 facts i f compared e (eq-eqb (suc i) (1 + i) one) (λ q n. ne_eqb (suc i) q (λ z. absurd (n (omega arith)))) ∙ sym (ap row_of_some e)
