-- The rows of true formulas are true, and so are those of the facts on atoms.
use Rattle.std.proofs.Common.{◌≡◌, ◌∙◌, sym, ap, refl, subst, ℕ, zero, suc, ◌+◌, ◌<◌, ℤ, pos, negsuc, ◌+ℤ◌, ◌-ℤ◌, ◌*ℤ◌, int_le, int_lt, Bool, true, false, ◌&&◌, List, [], ◌∷◌, ◌++◌, length, map, Option, Some, None, slice_get, if◌then◌else◌, arith}
use Rattle.std.specs.Int.{int_div_euclid}
use Rattle.std.specs.Option.{IfSome}
use Rattle.std.proofs.lemmas.Option.{IfSome_then}
use Rattle.std.specs.List.{AllByRecursion, list_all, list_any}
use Rattle.std.proofs.lemmas.Bool.{and_parts, and_from, le-leb, lt-ltb}
use Rattle.std.proofs.lemmas.Int.{ints}
use Rattle.math_terms.specs.declared.descriptor.Sort.{Sort}
use Rattle.math_terms.specs.declared.name.RowName.{RowName}
use Rattle.math_terms.specs.declared.name.RowName.TheVariants.{Hyp, Second, Atom}
use Rattle.math_terms.specs.declared.term.Term.{Term}
use Rattle.math_terms.specs.declared.term.Term.TheOpen.{Term-F}
use Rattle.math_terms.specs.declared.term.Term.TheViews.{roll-Term, out-Term, roll-out-Term, out-roll-Term}
use Rattle.math_terms.specs.declared.term.Term.TheFolds.{map-Term, fold-roll-Term}
use Rattle.math_terms.specs.Heads.{same_term}
use Rattle.math_terms.specs.Descriptors.{Interpretation, holds, starts_in, value}
use Rattle.math_terms.specs.Kinds.{kind}
use Rattle.math_terms.specs.Laws.{EqualityIsSameness, SameTermsAreEqual}
use Rattle.math_terms.specs.Meaning.{Valuation, value_step}
use Rattle.math_terms.specs.Sorts.{is_z}
use Rattle.math_terms.specs.Values.{Val, entries, number, truth, quotient}
use Rattle.num_theory.specs.working.Gathering.{no_rows, with_sums}
use Rattle.num_theory.specs.Laws.{RowsAreTrue, RowsFollow, SumHolds, sum_of_products, worth}
use Rattle.num_theory.specs.Number.{exact}
use Rattle.num_theory.specs.Linear.{Product, formed, linear_of, shown}
use Rattle.num_theory.specs.Lines.{narrow, row_holds}
use Rattle.num_theory.specs.Naming.{columns, find_rows}
use Rattle.num_theory.specs.Table.{Gathered, Sum, atoms_of, difference, facts_at, facts_by, facts_of, facts_over, gathered, go_on, last_of, less_eq, multiple_of, num, row_of, sums_at, sums_from, sums_of, sums_of_equation, sums_of_fact, sums_of_fact_at, sums_of_facts, sums_of_form, with_all_facts, with_atom, with_atoms, with_facts}
use Rattle.num_theory.proofs.Columns.{AreDistinct, IsCovered, added_with, distinct_with, kept_with, row_follows}
use Rattle.num_theory.proofs.Elements.{all_append, all_both, all_weaker}
use Rattle.num_theory.proofs.FormValues.{form_sound, forms_keep_values, shown_if}
use Rattle.num_theory.proofs.Integers.{euclid, remainder_small}
use Rattle.num_theory.proofs.Named.{covered_columns, distinct_columns, found_rows}
use Rattle.num_theory.proofs.Sums.{IsDistinct, distinct_shown}

le_difference : (x y : ℤ) → int_le x y ≡ true → int_le (pos 0) ((y -ℤ x) +ℤ pos 0) ≡ true
le_difference x y h = grind (arith, ints)

lt_difference : (x y : ℤ) → int_lt x y ≡ true → int_le (pos 0) ((y -ℤ x) +ℤ negsuc 0) ≡ true
lt_difference x y h = grind (arith, ints)

eq_le : (x y : ℤ) → x ≡ y → int_le x y ≡ true
eq_le x y e = grind (arith, ints)

module _ (law : SameTermsAreEqual) where
  kept_atoms : (u : Term) (atoms : List Term) (ps : List Product) → list_any (same_term u) atoms ≡ true → list_any (same_term u) (with_atoms atoms ps) ≡ true
  kept_atoms u atoms [] here = here
  kept_atoms u atoms (p ∷ ps) here = kept_atoms u (with_atom atoms p.1) ps (kept_with law u atoms p.1 here)

  kept_all : (u : Term) (atoms : List Term) (ss : List Sum) → list_any (same_term u) atoms ≡ true → list_any (same_term u) (atoms_of atoms ss) ≡ true
  kept_all u atoms [] here = here
  kept_all u atoms (s ∷ ss) here = kept_all u (with_atoms atoms s.products) ss (kept_atoms u atoms s.products here)

  distinct_atoms : (atoms : List Term) (ps : List Product) → AreDistinct atoms → AreDistinct (with_atoms atoms ps)
  distinct_atoms atoms [] all = all
  distinct_atoms atoms (p ∷ ps) all = distinct_atoms (with_atom atoms p.1) ps (distinct_with law atoms p.1 all)

  distinct_all : (atoms : List Term) (ss : List Sum) → AreDistinct atoms → AreDistinct (atoms_of atoms ss)
  distinct_all atoms [] all = all
  distinct_all atoms (s ∷ ss) all = distinct_all (with_atoms atoms s.products) ss (distinct_atoms atoms s.products all)

  covered_kept : (atoms : List Term) (ss : List Sum) (ps : List Product) → IsCovered atoms ps → IsCovered (atoms_of atoms ss) ps
  covered_kept atoms ss ps covered =
      all_weaker (λ p. list_any (same_term p.1) atoms ≡ true) (λ p. list_any (same_term p.1) (atoms_of atoms ss) ≡ true) (λ p here. kept_all p.1 atoms ss here) ps covered

  covered_new : (atoms : List Term) (ps : List Product) → IsCovered (with_atoms atoms ps) ps
  covered_new atoms [] = tt
  covered_new atoms (p ∷ ps) = (kept_atoms p.1 (with_atom atoms p.1) ps (added_with law atoms p.1), covered_new (with_atom atoms p.1) ps)

  covered_sums : (atoms : List Term) (ss : List Sum) → AllByRecursion (λ s. IsCovered (atoms_of atoms ss) s.products) ss
  covered_sums atoms [] = tt
  covered_sums atoms (s ∷ ss) = (covered_kept (with_atoms atoms s.products) ss s.products (covered_new atoms s.products), covered_sums (with_atoms atoms s.products) ss)

  module _ (equality : EqualityIsSameness) (I : Interpretation) (w : Valuation) where
    abbrev worth_of : Term → ℤ
    worth_of t = number (value I w t)

    -- a row that is true, with an atom in one product at most
    IsTrueSum : Sum → Type 0
    IsTrueSum s = SumHolds I w s × IsDistinct s.products

    IsSound : List Term → Sum → Type 0
    IsSound atoms s = IsTrueSum s × IsCovered atoms s.products

    pub IsSoundTable : List Term → List Sum → Type 0
    IsSoundTable atoms sums = AreDistinct atoms × AllByRecursion (IsSound atoms) sums

    sound_more : (atoms : List Term) (sums new : List Sum) → IsSoundTable atoms sums → AllByRecursion IsTrueSum new → IsSoundTable (atoms_of atoms new) (sums ++ new)
    unfolding IsSoundTable IsSound
    sound_more atoms sums new sound true_new = (
      distinct_all atoms new sound.0,
      all_append (IsSound (atoms_of atoms new)) sums new
          (all_weaker (IsSound atoms) (IsSound (atoms_of atoms new)) (λ s one. (one.0, covered_kept atoms new s.products one.1)) sums sound.1)
          (both new true_new (covered_sums atoms new)),
    )
      where
        both : (ss : List Sum) → AllByRecursion IsTrueSum ss → AllByRecursion (λ s. IsCovered (atoms_of atoms new) s.products) ss → AllByRecursion (IsSound (atoms_of atoms new)) ss
        both [] a b = tt
        both (s ∷ ss) a b = ((a.0, b.0), both ss a.1 b.1)

    -- the number of a term with this node at its head, and whether a formula with it is true
    worth_at : (x : Term-F Term) → worth_of (roll-Term x) ≡ number (value_step (starts_in I) w (map-Term Term Val (value I w) x))
    worth_at x = ap number (fold-roll-Term Val (value_step (starts_in I) w) x)

    pub holds_at : (x : Term-F Term) → holds I w (roll-Term x) ≡ truth (value_step (starts_in I) w (map-Term Term Val (value I w) x))
    holds_at x = ap truth (fold-roll-Term Val (value_step (starts_in I) w) x)

    -- the row of a difference that is not negative
    true_form : (name : RowName) (shift : ℤ) (t : Term) → int_le (pos 0) (worth_of t +ℤ shift) ≡ true → AllByRecursion IsTrueSum (sums_of_form name shift (linear_of t))
    unfolding IsTrueSum
    true_form name shift t high = by_form (linear_of t) refl
      where
        of_form : (f : List Product × ℤ) → linear_of t ≡ Some f → SumHolds I w (record { name = name; products = f.0; constant = f.1 +ℤ shift }) × IsDistinct f.0
        of_form f is = (
          ap (int_le (pos 0)) (after (sum_of_products I w f.0) f.1 shift ∙ ap (λ x. x +ℤ shift) (sym (forms_keep_values law t f.0 f.1 is I w))) ∙ high,
          subst IsDistinct (products_of (formed t).1.is_narrow is) (distinct_shown law (formed t).1.products (form_sound law I w t).0),
        )
          where
            after : (x y z : ℤ) → x +ℤ (y +ℤ z) ≡ (x +ℤ y) +ℤ z
            after x y z = omega (arith, ints)

            products_of : (b : Bool) → shown_if b (shown (formed t).1.products, exact (formed t).1.constant) ≡ Some f → shown (formed t).1.products ≡ f.0
            products_of true e = let left : List Product × ℤ = (shown (formed t).1.products, exact (formed t).1.constant) in
                let pairs : left ≡ f = cc in ap (λ (p : List Product × ℤ). p.0) pairs
            products_of false e = cc

        by_form : (o : Option (List Product × ℤ)) → linear_of t ≡ o → AllByRecursion IsTrueSum (sums_of_form name shift o)
        by_form None is = tt
        by_form (Some f) is =
            elim (narrow (f.1 +ℤ shift)) as (λ b. AllByRecursion IsTrueSum (if b then record { name = name; products = f.0; constant = f.1 +ℤ shift } ∷ [] else []))
            [ true ↦ (of_form f is, tt) | false ↦ tt ]

    true_difference : (name : RowName) (shift : ℤ) (a b : Term) → int_le (pos 0) ((worth_of b -ℤ worth_of a) +ℤ shift) ≡ true → AllByRecursion IsTrueSum (difference name shift a b)
    true_difference name shift a b high =
        true_form name shift (roll-Term (Term-F.Sub b a)) (ap (λ x. int_le (pos 0) (x +ℤ shift)) (worth_at (Term-F.Sub b a)) ∙ high)

    true_equation : (vars : List Sort) (k : ℕ) (a b : Term) → worth_of a ≡ worth_of b → AllByRecursion IsTrueSum (sums_of_equation vars k a b)
    true_equation vars k a b same =
        elim (is_z (kind vars a) && is_z (kind vars b))
        as (λ c. AllByRecursion IsTrueSum (if c then difference (Hyp k) (pos 0) a b ++ difference (Second k) (pos 0) b a else [])) [
          | true ↦ all_append IsTrueSum (difference (Hyp k) (pos 0) a b) (difference (Second k) (pos 0) b a)
              (true_difference (Hyp k) (pos 0) a b (le_difference (worth_of a) (worth_of b) (eq_le (worth_of a) (worth_of b) same)))
              (true_difference (Second k) (pos 0) b a (le_difference (worth_of b) (worth_of a) (eq_le (worth_of b) (worth_of a) (sym same))))
          | false ↦ tt
        ]

    true_rows_at : (vars : List Sort) (k : ℕ) (x : Term-F Term) → holds I w (roll-Term x) ≡ true → AllByRecursion IsTrueSum (sums_at vars k x)
    true_rows_at vars k (Term-F.Eq a b) h = true_equation vars k a b (ap number ((equality (value I w a) (value I w b)).0 (sym (holds_at (Term-F.Eq a b)) ∙ h)))
    true_rows_at vars k (Term-F.Less a b) h = true_difference (Hyp k) (negsuc 0) a b (lt_difference (worth_of a) (worth_of b) (sym (holds_at (Term-F.Less a b)) ∙ h))
    true_rows_at vars k (Term-F.LessEq a b) h = true_difference (Hyp k) (pos 0) a b (le_difference (worth_of a) (worth_of b) (sym (holds_at (Term-F.LessEq a b)) ∙ h))
    true_rows_at vars k x h = tt

    true_rows : (vars : List Sort) (k : ℕ) (f : Term) → holds I w f ≡ true → AllByRecursion IsTrueSum (sums_of vars k f)
    true_rows vars k f h = true_rows_at vars k (out-Term f) (ap (holds I w) (roll-out-Term f) ∙ h)

    true_rows_from : (vars : List Sort) (k : ℕ) (fs : List Term) → list_all (holds I w) fs ≡ true → AllByRecursion IsTrueSum (sums_from vars k fs)
    true_rows_from vars k [] h = tt
    true_rows_from vars k (f ∷ fs) h =
        let parts = and_parts (holds I w f) (list_all (holds I w) fs) h in
        all_append IsTrueSum (sums_of vars k f) (sums_from vars (k + 1) fs) (true_rows vars k f parts.0) (true_rows_from vars (k + 1) fs parts.1)

    -- facts are comparisons that hold
    IsTrueFact : Term → Type 0
    IsTrueFact f = (k : ℕ) → AllByRecursion IsTrueSum (sums_of_fact k f)

    true_fact : (a b : Term) → int_le (worth_of a) (worth_of b) ≡ true → IsTrueFact (less_eq a b)
    unfolding IsTrueFact
    true_fact a b h k =
        subst (λ x. AllByRecursion IsTrueSum (sums_of_fact_at k x)) (sym (out-roll-Term (Term-F.LessEq a b)))
        (true_difference (Atom k) (pos 0) a b (le_difference (worth_of a) (worth_of b) h))

    true_length : (s : Term) → AllByRecursion IsTrueFact (less_eq (num (pos 0)) (roll-Term (Term-F.Len s)) ∷ [])
    true_length s = (
      true_fact (num (pos 0)) (roll-Term (Term-F.Len s))
          ((λ i. int_le (worth_at (Term-F.Num (pos 0)) i) (worth_at (Term-F.Len s) i)) ∙ le-leb 0 (length (entries (value I w s))) (omega arith)),
      tt,
    )

    -- a quotient is rounded down
    lower : (n : ℕ) (x : ℤ) → int_le (pos (suc n) *ℤ int_div_euclid x (pos (suc n))) x ≡ true
    lower n x =
        let small = remainder_small x n in
        let whole = euclid x n ∙ ap (λ r. pos (suc n) *ℤ int_div_euclid x (pos (suc n)) +ℤ r) small.1 in
        above (pos (suc n) *ℤ int_div_euclid x (pos (suc n))) small.0 x whole
      where
        above : (y : ℤ) (r : ℕ) (z : ℤ) → z ≡ y +ℤ pos r → int_le y z ≡ true
        above y r z e = grind (arith, ints)

    upper : (n : ℕ) (x : ℤ) → int_le x ((pos (suc n) *ℤ int_div_euclid x (pos (suc n)) +ℤ pos (suc n)) -ℤ pos 1) ≡ true
    upper n x =
        let small = remainder_small x n in
        let whole = euclid x n ∙ ap (λ r. pos (suc n) *ℤ int_div_euclid x (pos (suc n)) +ℤ r) small.1 in
        below (pos (suc n) *ℤ int_div_euclid x (pos (suc n))) small.0 x whole small.2
      where
        below : (y : ℤ) (r : ℕ) (z : ℤ) → z ≡ y +ℤ pos r → r < suc n → int_le z ((y +ℤ pos (suc n)) -ℤ pos 1) ≡ true
        below y r z e small = grind (arith, ints)

    true_quotient : (t d : Term) (n : ℕ) → d ≡ num (pos (suc n)) → AllByRecursion IsTrueFact (facts_by (roll-Term (Term-F.Div t d)) t (pos (suc n)))
    true_quotient t d n is =
        let q : Term = roll-Term (Term-F.Div t d) in
        let m : ℤ = pos (suc n) in
        let literal : worth_of (num m) ≡ m = worth_at (Term-F.Num m) in
        let divided : worth_of q ≡ int_div_euclid (worth_of t) m =
        worth_at (Term-F.Div t d) ∙ ap (quotient (worth_of t)) (ap worth_of is ∙ literal) ∙ rw (lt-ltb 0 (suc n) (omega arith)) refl in
        let times : worth_of (multiple_of m q) ≡ m *ℤ int_div_euclid (worth_of t) m =
        worth_at (Term-F.Mul (num m) q) ∙ (λ i. literal i *ℤ divided i) in
        let last : worth_of (last_of m q) ≡ (m *ℤ int_div_euclid (worth_of t) m +ℤ m) -ℤ pos 1 =
        worth_at (Term-F.Sub (roll-Term (Term-F.Add (multiple_of m q) (num m))) (num (pos 1)))
        ∙ (λ i. worth_at (Term-F.Add (multiple_of m q) (num m)) i -ℤ worth_at (Term-F.Num (pos 1)) i)
        ∙ (λ i. (times i +ℤ literal i) -ℤ pos 1) in (
          true_fact (multiple_of m q) t (ap (λ x. int_le x (worth_of t)) times ∙ lower n (worth_of t)),
          (true_fact t (last_of m q) (ap (int_le (worth_of t)) last ∙ upper n (worth_of t)), tt),
        )

    true_by : (t d : Term) (n : ℤ) → d ≡ num n → AllByRecursion IsTrueFact (facts_by (roll-Term (Term-F.Div t d)) t n)
    true_by t d (pos zero) is = tt
    true_by t d (pos (suc n)) is = true_quotient t d n is
    true_by t d (negsuc n) is = tt

    true_over : (t d : Term) (x : Term-F Term) → d ≡ roll-Term x → AllByRecursion IsTrueFact (facts_over (roll-Term (Term-F.Div t d)) t x)
    true_over t d (Term-F.Num n) is = true_by t d n is
    true_over t d x is = tt

    true_at : (x : Term-F Term) → AllByRecursion IsTrueFact (facts_at (roll-Term x) x)
    true_at (Term-F.Div a b) = true_over a b (out-Term b) (sym (roll-out-Term b))
    true_at (Term-F.Len a) = true_length a
    true_at x = tt

    true_facts : (atom : Term) → AllByRecursion IsTrueFact (facts_of atom)
    true_facts atom = subst (λ t. AllByRecursion IsTrueFact (facts_at t (out-Term atom))) (roll-out-Term atom) (true_at (out-Term atom))

    true_fact_rows : (k : ℕ) (fs : List Term) → AllByRecursion IsTrueFact fs → AllByRecursion IsTrueSum (sums_of_facts k fs)
    unfolding IsTrueFact
    true_fact_rows k [] all = tt
    true_fact_rows k (f ∷ fs) all =
        all_append IsTrueSum (sums_of_fact k f) (sums_of_facts (k + 1) fs) (all.0 k) (true_fact_rows (k + 1) fs all.1)

    sound_facts : (g : Gathered) (atom : Term) → IsSoundTable g.atoms g.sums → IsSoundTable (with_facts g atom).atoms (with_facts g atom).sums
    sound_facts g atom sound =
        sound_more g.atoms g.sums (sums_of_facts (g.facts + 1) (facts_of atom)) sound (true_fact_rows (g.facts + 1) (facts_of atom) (true_facts atom))

    abbrev rest_from : ℕ → ℕ → Gathered → Term → Gathered
    rest_from most i g atom = with_all_facts most (i + 1) (with_facts g atom)

    sound_next : (most i : ℕ) (g : Gathered) (o : Option Term) → IsSoundTable g.atoms g.sums →
        ((atom : Term) → IsSoundTable (rest_from most i g atom).atoms (rest_from most i g atom).sums) →
        IsSoundTable (go_on g o (rest_from most i g)).atoms (go_on g o (rest_from most i g)).sums
    sound_next most i g None sound rest = sound
    sound_next most i g (Some atom) sound rest = rest atom

    sound_all : (most i : ℕ) (g : Gathered) → IsSoundTable g.atoms g.sums → IsSoundTable (with_all_facts most i g).atoms (with_all_facts most i g).sums
    unfolding with_all_facts
    sound_all zero i g sound = sound
    sound_all (suc most) i g sound =
        sound_next most i g (slice_get g.atoms i) sound (λ atom. sound_all most (i + 1) (with_facts g atom) (sound_facts g atom sound))

    -- the table of true formulas is one of true rows
    pub sound_table : (most : ℕ) (vars : List Sort) (fs : List Term) → list_all (holds I w) fs ≡ true →
        IsSoundTable (gathered most vars fs).atoms (gathered most vars fs).sums
    unfolding IsSoundTable
    sound_table most vars fs h =
        sound_all most 0 (with_sums no_rows (sums_from vars 1 fs)) (sound_more [] [] (sums_from vars 1 fs) (tt, tt) (true_rows_from vars 1 fs h))

    rows_hold : (atoms : List Term) (sums : List Sum) → AreDistinct atoms → AllByRecursion (IsSound atoms) sums → list_all (row_holds (worth I w atoms)) (map (row_of atoms) sums) ≡ true
    unfolding IsSound IsTrueSum
    rows_hold atoms [] distinct all = refl
    rows_hold atoms (s ∷ ss) distinct all =
        and_from (row_holds (worth I w atoms) (row_of atoms s)) (list_all (row_holds (worth I w atoms)) (map (row_of atoms) ss))
        (row_follows law I w atoms s distinct all.0.0.1 all.0.1 all.0.0.0) (rows_hold atoms ss distinct all.1)

    pub table_holds : (most : ℕ) (vars : List Sort) (fs : List Term) → list_all (holds I w) fs ≡ true →
        list_all (row_holds (worth I w (gathered most vars fs).atoms)) (map (row_of (gathered most vars fs).atoms) (gathered most vars fs).sums) ≡ true
    unfolding IsSoundTable
    table_holds most vars fs h =
        let sound = sound_table most vars fs h in
        rows_hold (gathered most vars fs).atoms (gathered most vars fs).sums sound.0 sound.1

    -- the same of rows that are found by their names, with columns for their atoms alone
    pub found_rows_hold : (most : ℕ) (vars : List Sort) (fs : List Term) → list_all (holds I w) fs ≡ true → (hyps : ℕ) (names : List RowName) →
        IfSome (find_rows hyps (gathered most vars fs).sums names)
        (λ named. list_all (row_holds (worth I w (columns (gathered most vars fs).atoms named))) (map (row_of (columns (gathered most vars fs).atoms named)) named) ≡ true)
    unfolding IsSoundTable IsSound
    found_rows_hold most vars fs h hyps names =
        let sound = sound_table most vars fs h in
        let atoms : List Term = (gathered most vars fs).atoms in
        let sums : List Sum = (gathered most vars fs).sums in
        IfSome_then (find_rows hyps sums names) (found_rows (IsSound atoms) hyps sums names sound.1) (λ named all.
        rows_hold (columns atoms named) named (distinct_columns atoms named sound.0)
        (all_both IsTrueSum (λ s. IsCovered (columns atoms named) s.products) (IsSound (columns atoms named)) (λ s a b. (a, b)) named
        (all_weaker (IsSound atoms) IsTrueSum (λ s one. one.0) named all)
        (covered_columns law atoms named (all_weaker (IsSound atoms) (λ s. IsCovered atoms s.products) (λ s one. one.1) named all))))

pub rows_follow : SameTermsAreEqual → EqualityIsSameness → RowsFollow
rows_follow law equality most vars fs I w h = table_holds law equality I w most vars fs h

-- the same of a table that is equal to one of true rows
pub rows_true_along : (fs atoms bs : List Term) (rows ss : List (List ℤ)) → atoms ≡ bs → rows ≡ ss → RowsAreTrue fs bs ss → RowsAreTrue fs atoms rows
rows_true_along fs atoms bs rows ss same_atoms same_rows law =
    subst (RowsAreTrue fs atoms) (sym same_rows) (subst (λ ts. RowsAreTrue fs ts ss) (sym same_atoms) law)
