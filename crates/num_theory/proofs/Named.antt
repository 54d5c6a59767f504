-- Columns for the atoms of some rows alone, and rows by their names.
use Rattle.std.proofs.Common.{◌≡◌, ◌∙◌, sym, ap, refl, ℕ, Bool, true, false, ◌||◌, cond, List, [], ◌∷◌, filter, Option, Some, None, option_and_then, if◌then◌else◌}
use Rattle.std.specs.List.{AllByRecursion, list_any}
use Rattle.std.specs.Option.{IfSome}
use Rattle.std.proofs.lemmas.Bool.{or_left, or_parts, or_right}
use Rattle.std.proofs.lemmas.Map.Views.{any-filter_same}
use Rattle.math_terms.specs.declared.name.RowName.{RowName}
use Rattle.math_terms.specs.declared.term.Term.{Term}
use Rattle.math_terms.specs.Heads.{same_term}
use Rattle.math_terms.specs.Laws.{SameTermsAreEqual}
use Rattle.num_theory.specs.Linear.{Product}
use Rattle.num_theory.specs.Naming.{columns, find_row, find_rows, name_among, occurs, same_name}
use Rattle.num_theory.specs.Table.{Sum}
use Rattle.num_theory.proofs.Columns.{AreDistinct, IsCovered, itself}
use Rattle.num_theory.proofs.Elements.{all_both, all_weaker}

absent_filtered : (t : Term) (p : Term → Bool) (ts : List Term) → list_any (same_term t) ts ≡ false → list_any (same_term t) (filter p ts) ≡ false
absent_filtered t p [] absent = refl
absent_filtered t p (u ∷ ts) absent = by_test (p u) (absent_filtered t p ts parts.1)
  where
    parts : (same_term t u ≡ false) × (list_any (same_term t) ts ≡ false)
    parts = or_parts (same_term t u) (list_any (same_term t) ts) absent

    by_test : (b : Bool) → list_any (same_term t) (filter p ts) ≡ false → list_any (same_term t) (cond b (u ∷ filter p ts) (filter p ts)) ≡ false
    by_test true rest = (λ i. parts.0 i || rest i)
    by_test false rest = rest

distinct_filtered : (p : Term → Bool) (ts : List Term) → AreDistinct ts → AreDistinct (filter p ts)
distinct_filtered p [] all = tt
distinct_filtered p (t ∷ ts) all = by_test (p t) (distinct_filtered p ts all.1)
  where
    by_test : (b : Bool) → AreDistinct (filter p ts) → AreDistinct (cond b (t ∷ filter p ts) (filter p ts))
    by_test true rest = (absent_filtered t p ts all.0, rest)
    by_test false rest = rest

pub distinct_columns : (atoms : List Term) (named : List Sum) → AreDistinct atoms → AreDistinct (columns atoms named)
distinct_columns atoms named all = distinct_filtered (occurs named) atoms all

-- the atom of a product is among those of its products
abbrev own : List Product → Term → Bool
own ps t = list_any (λ p. same_term t p.1) ps

-- what is found by a test is found where there is one element more
found_later : {X : Type 0} (test : Term → X → Bool) (x : X) (xs : List X) (ps : List Product) →
    AllByRecursion (λ p. list_any (test p.1) xs ≡ true) ps → AllByRecursion (λ p. list_any (test p.1) (x ∷ xs) ≡ true) ps
found_later test x xs ps all =
    all_weaker (λ p. list_any (test p.1) xs ≡ true) (λ p. list_any (test p.1) (x ∷ xs) ≡ true) (λ p here. or_right (test p.1 x) (list_any (test p.1) xs) here) ps all

module _ (law : SameTermsAreEqual) where
  each_own : (ps : List Product) → AllByRecursion (λ p. own ps p.1 ≡ true) ps
  each_own [] = tt
  each_own (p ∷ ps) = (or_left (same_term p.1 p.1) (own ps p.1) (itself law p.1), found_later (λ t q. same_term t q.1) p ps ps (each_own ps))

  -- each atom of these rows occurs in them
  each_occurs : (named : List Sum) → AllByRecursion (λ s. AllByRecursion (λ p. occurs named p.1 ≡ true) s.products) named
  each_occurs [] = tt
  each_occurs (s ∷ ss) = (
    all_weaker (λ p. own s.products p.1 ≡ true) (λ p. occurs (s ∷ ss) p.1 ≡ true) (λ p here. or_left (own s.products p.1) (occurs ss p.1) here)
        s.products (each_own s.products),
    all_weaker (λ r. AllByRecursion (λ p. occurs ss p.1 ≡ true) r.products) (λ r. AllByRecursion (λ p. occurs (s ∷ ss) p.1 ≡ true) r.products)
        (λ r all. found_later (λ t q. own q.products t) s ss r.products all) ss (each_occurs ss),
  )

  kept_column : (atoms : List Term) (named : List Sum) (t : Term) → list_any (same_term t) atoms ≡ true → occurs named t ≡ true → list_any (same_term t) (columns atoms named) ≡ true
  kept_column atoms named t here there =
      any-filter_same (same_term t) (occurs named) true (λ u same. ap (occurs named) (sym ((law t u).0 same)) ∙ there) atoms ∙ here

  pub covered_columns : (atoms : List Term) (named : List Sum) → AllByRecursion (λ s. IsCovered atoms s.products) named → AllByRecursion (λ s. IsCovered (columns atoms named) s.products) named
  covered_columns atoms named all =
      all_both (λ s. IsCovered atoms s.products) (λ s. AllByRecursion (λ p. occurs named p.1 ≡ true) s.products) (λ s. IsCovered (columns atoms named) s.products)
      (λ s covered found.
      all_both (λ p. list_any (same_term p.1) atoms ≡ true) (λ p. occurs named p.1 ≡ true) (λ p. list_any (same_term p.1) (columns atoms named) ≡ true)
      (λ p here there. kept_column atoms named p.1 here there) s.products covered found)
      named all (each_occurs named)

-- what holds of all rows holds of those that are found by their names
found_row : (P : Sum → Type 0) (hyps : ℕ) (name : RowName) (sums : List Sum) → AllByRecursion P sums → IfSome (find_row hyps name sums) P
found_row P hyps name [] all = tt
found_row P hyps name (s ∷ ss) all = by_test (same_name name (name_among hyps s.name)) (found_row P hyps name ss all.1)
  where
    by_test : (b : Bool) → IfSome (find_row hyps name ss) P → IfSome (if b then Some s else find_row hyps name ss) P
    by_test true rest = all.0
    by_test false rest = rest

pub found_rows : (P : Sum → Type 0) (hyps : ℕ) (sums : List Sum) (names : List RowName) → AllByRecursion P sums → IfSome (find_rows hyps sums names) (AllByRecursion P)
found_rows P hyps sums [] all = tt
found_rows P hyps sums (n ∷ ns) all = first (find_row hyps n sums) (found_row P hyps n sums all) (found_rows P hyps sums ns all)
  where
    rest_of : (s : Sum) (o : Option (List Sum)) → P s → IfSome o (AllByRecursion P) → IfSome (option_and_then (λ ss. Some (s ∷ ss)) o) (AllByRecursion P)
    rest_of s None here rest = tt
    rest_of s (Some ss) here rest = (here, rest)

    first : (o : Option Sum) → IfSome o P → IfSome (find_rows hyps sums ns) (AllByRecursion P) →
        IfSome (option_and_then (λ s. option_and_then (λ ss. Some (s ∷ ss)) (find_rows hyps sums ns)) o) (AllByRecursion P)
    first None here rest = tt
    first (Some s) here rest = rest_of s (find_rows hyps sums ns) here rest
