-- The rows of a table have a column for each atom and one more, and narrow numbers.
use Rattle.std.proofs.Common.{◌≡◌, ◌∙◌, ap, refl, subst, ℕ, zero, suc, ◌+◌, ◌==◌, ◌&&◌, ◌/◌, ltb, ℤ, pos, negsuc, ◌+ℤ◌, Bool, true, List, [], ◌∷◌, ◌++◌, length, map, Option, Some, None, slice_get, IsTrue, arith}
use Rattle.std.specs.Int.{int_div_euclid}
use Rattle.std.specs.List.{AllByRecursion, list_all}
use Rattle.std.proofs.Math.Nat.{div-le_self}
use Rattle.std.proofs.lemmas.Bool.{and_parts, and_from, cond_both, false≢true, ltb-true, lt-ltb}
use Rattle.std.proofs.lemmas.List.{length-append, length-map}
use Rattle.std.proofs.lemmas.List.Folds.{list_all-append}
use Rattle.std.proofs.lemmas.Option.{cond_some}
use Rattle.math_terms.specs.declared.descriptor.Sort.{Sort}
use Rattle.math_terms.specs.declared.name.RowName.{RowName}
use Rattle.math_terms.specs.declared.name.RowName.TheVariants.{Hyp, Second, Atom}
use Rattle.math_terms.specs.declared.term.Term.{Term}
use Rattle.math_terms.specs.declared.term.Term.TheOpen.{Term-F}
use Rattle.math_terms.specs.declared.term.Term.TheViews.{roll-Term, out-Term}
use Rattle.math_terms.specs.Heads.{same_term}
use Rattle.math_terms.specs.Kinds.{kind}
use Rattle.math_terms.specs.Sorts.{is_z}
use Rattle.num_theory.specs.declared.number.Number.{Number}
use Rattle.num_theory.specs.declared.number.Number.TheVariants.{Exact, Lost}
use Rattle.num_theory.specs.working.Gathering.{no_rows, with_sums}
use Rattle.num_theory.specs.Laws.{RowsFit}
use Rattle.num_theory.specs.Linear.{Form, Product, RawProduct, exact_product, formed, insert_product, linear_of, narrow_products, shown, shown_form, text_before}
use Rattle.num_theory.specs.working.Making.{IsWellMade}
use Rattle.num_theory.specs.Number.{exact, is_narrow, is_zero}
use Rattle.num_theory.specs.Rows.{all_narrow, divisor, narrow, reduced}
use Rattle.num_theory.specs.Table.{Gathered, Sum, coefficient, difference, facts_of, gathered, go_on, row_of, sums_at, sums_from, sums_of, sums_of_equation, sums_of_fact, sums_of_fact_at, sums_of_facts, sums_of_form, with_all_facts, with_facts}
use Rattle.num_theory.specs.Texts.{text}
use Rattle.num_theory.proofs.Elements.{all_append}
use Rattle.num_theory.proofs.Placing.{shown-cons}
use Rattle.num_theory.proofs.Refuting.{length-reduced}
use Rattle.num_theory.proofs.WellMade.{form_well}

narrow_exact : (n : Number) → is_narrow n ≡ true → narrow (exact n) ≡ true
narrow_exact (Exact z) h = h
narrow_exact Lost h = absurd (false≢true h)

-- products with narrow numbers
abbrev all_small : List Product → Bool
all_small ps = list_all (λ p. narrow p.0) ps

small_inserted : (p : Product) (ps : List Product) → narrow p.0 ≡ true → all_small ps ≡ true → all_small (insert_product p ps) ≡ true
small_inserted p [] h k = and_from (narrow p.0) true h refl
small_inserted p (q ∷ qs) h k =
    let parts = and_parts (narrow q.0) (all_small qs) k in
    cond_both (text_before (text p.1) (text q.1)) (p ∷ q ∷ qs) (q ∷ insert_product p qs) (λ rs. all_small rs ≡ true)
    (λ _. and_from (narrow p.0) (all_small (q ∷ qs)) h k)
    (λ _. and_from (narrow q.0) (all_small (insert_product p qs)) parts.0 (small_inserted p qs h parts.1))

small_shown : (ps : List RawProduct) → narrow_products ps ≡ true → all_small (shown ps) ≡ true
small_shown [] h = refl
small_shown (p ∷ ps) h =
    let parts = and_parts (is_narrow p.0) (narrow_products ps) h in
    let rest = small_shown ps parts.1 in
    ap all_small (shown-cons p ps)
    ∙ cond_both (is_zero p.0) (shown ps) (insert_product (exact_product p) (shown ps)) (λ rs. all_small rs ≡ true) (λ _. rest)
    (λ _. small_inserted (exact_product p) (shown ps) (narrow_exact p.0 parts.0) rest)

small_form : (f : Form) (shape : List Product × ℤ) → IsWellMade f → shown_form f ≡ Some shape → all_small shape.0 ≡ true
small_form f shape well e =
    let is = cond_some f.is_narrow (shown f.products, exact f.constant) shape e in
    subst (λ (r : List Product × ℤ). all_small r.0 ≡ true) is.1 (small_shown f.products (well is.0).0)

-- a row with narrow numbers
abbrev IsSmall : Sum → Type 0
IsSmall s = (all_small s.products ≡ true) × (narrow s.constant ≡ true)

small_sums_of_form : (name : RowName) (shift : ℤ) (t : Term) (o : Option (List Product × ℤ)) → linear_of t ≡ o → AllByRecursion IsSmall (sums_of_form name shift o)
small_sums_of_form name shift t None e = tt
small_sums_of_form name shift t (Some f) e =
    cond_both (narrow (f.1 +ℤ shift)) (record { name = name; products = f.0; constant = f.1 +ℤ shift } ∷ []) [] (AllByRecursion IsSmall)
    (λ small. ((small_form (formed t).1 f (form_well t) e, small), tt)) (λ _. tt)

small_difference : (name : RowName) (shift : ℤ) (a b : Term) → AllByRecursion IsSmall (difference name shift a b)
small_difference name shift a b = let t : Term = roll-Term (Term-F.Sub b a) in small_sums_of_form name shift t (linear_of t) refl

small_equation : (vars : List Sort) (k : ℕ) (a b : Term) → AllByRecursion IsSmall (sums_of_equation vars k a b)
small_equation vars k a b =
    cond_both (is_z (kind vars a) && is_z (kind vars b)) (difference (Hyp k) (pos 0) a b ++ difference (Second k) (pos 0) b a) [] (AllByRecursion IsSmall)
    (λ _. all_append IsSmall (difference (Hyp k) (pos 0) a b) (difference (Second k) (pos 0) b a) (small_difference (Hyp k) (pos 0) a b) (small_difference (Second k) (pos 0) b a))
    (λ _. tt)

small_at : (vars : List Sort) (k : ℕ) (x : Term-F Term) → AllByRecursion IsSmall (sums_at vars k x)
small_at vars k (Term-F.LessEq a b) = small_difference (Hyp k) (pos 0) a b
small_at vars k (Term-F.Less a b) = small_difference (Hyp k) (negsuc 0) a b
small_at vars k (Term-F.Eq a b) = small_equation vars k a b
small_at vars k x = tt

small_from : (vars : List Sort) (k : ℕ) (fs : List Term) → AllByRecursion IsSmall (sums_from vars k fs)
small_from vars k [] = tt
small_from vars k (f ∷ fs) = all_append IsSmall (sums_of vars k f) (sums_from vars (k + 1) fs) (small_at vars k (out-Term f)) (small_from vars (k + 1) fs)

small_fact_at : (k : ℕ) (x : Term-F Term) → AllByRecursion IsSmall (sums_of_fact_at k x)
small_fact_at k (Term-F.LessEq a b) = small_difference (Atom k) (pos 0) a b
small_fact_at k x = tt

small_facts : (k : ℕ) (fs : List Term) → AllByRecursion IsSmall (sums_of_facts k fs)
small_facts k [] = tt
small_facts k (f ∷ fs) = all_append IsSmall (sums_of_fact k f) (sums_of_facts (k + 1) fs) (small_fact_at k (out-Term f)) (small_facts (k + 1) fs)

small_gone_on : (g : Gathered) (o : Option Term) (next : Term → Gathered) → AllByRecursion IsSmall g.sums → ((atom : Term) → AllByRecursion IsSmall (next atom).sums) → AllByRecursion IsSmall (go_on g o next).sums
small_gone_on g None next small rest = small
small_gone_on g (Some atom) next small rest = rest atom

small_all : (most i : ℕ) (g : Gathered) → AllByRecursion IsSmall g.sums → AllByRecursion IsSmall (with_all_facts most i g).sums
unfolding with_all_facts
small_all zero i g small = small
small_all (suc most) i g small =
    small_gone_on g (slice_get g.atoms i) (λ atom. with_all_facts most (i + 1) (with_facts g atom)) small
    (λ atom.
    small_all most (i + 1) (with_facts g atom)
    (all_append IsSmall g.sums (sums_of_facts (g.facts + 1) (facts_of atom)) small (small_facts (g.facts + 1) (facts_of atom))))

small_gathered : (most : ℕ) (vars : List Sort) (fs : List Term) → AllByRecursion IsSmall (gathered most vars fs).sums
small_gathered most vars fs = small_all most 0 (with_sums no_rows (sums_from vars 1 fs)) (small_from vars 1 fs)

small_coefficient : (t : Term) (ps : List Product) → all_small ps ≡ true → narrow (coefficient t ps) ≡ true
small_coefficient t [] h = refl
small_coefficient t (p ∷ ps) h =
    let parts = and_parts (narrow p.0) (all_small ps) h in
    cond_both (same_term t p.1) p.0 (coefficient t ps) (λ z. narrow z ≡ true) (λ _. parts.0) (λ _. small_coefficient t ps parts.1)

small_coefficients : (atoms : List Term) (ps : List Product) → all_small ps ≡ true → all_narrow (map (λ t. coefficient t ps) atoms) ≡ true
small_coefficients [] ps h = refl
small_coefficients (t ∷ ts) ps h =
    and_from (narrow (coefficient t ps)) (all_narrow (map (λ t. coefficient t ps) ts)) (small_coefficient t ps h) (small_coefficients ts ps h)

small_quotient : (z : ℤ) (d : ℕ) → narrow z ≡ true → narrow (int_div_euclid z (pos d)) ≡ true
small_quotient (pos a) d h = let le = div-le_self a d in let few = ltb-true a 2147483648 h in lt-ltb _ _ (omega (arith, le, few))
small_quotient (negsuc a) d h =
    let le = div-le_self a d in
    let few = ltb-true a 2147483647 (and_parts (ltb a 2147483647) true h).0 in
    and_from (ltb (a / d) 2147483647) true (lt-ltb _ _ (omega (arith, le, few))) refl

small_quotients : (d : ℕ) (zs : List ℤ) → all_narrow zs ≡ true → all_narrow (map (λ z. int_div_euclid z (pos d)) zs) ≡ true
small_quotients d [] h = refl
small_quotients d (z ∷ zs) h =
    let parts = and_parts (narrow z) (all_narrow zs) h in
    and_from (narrow (int_div_euclid z (pos d))) (all_narrow (map (λ z. int_div_euclid z (pos d)) zs)) (small_quotient z d parts.0) (small_quotients d zs parts.1)

small_reduced : (row : List ℤ) → all_narrow row ≡ true → all_narrow (reduced row) ≡ true
small_reduced row h =
    cond_both (divisor row == 0) row (map (λ z. int_div_euclid z (pos (divisor row))) row) (λ r. all_narrow r ≡ true) (λ _. h) (λ _. small_quotients (divisor row) row h)

row_narrow : (atoms : List Term) (s : Sum) → IsSmall s → all_narrow (row_of atoms s) ≡ true
row_narrow atoms s h =
    let numbers : List ℤ = map (λ t. coefficient t s.products) atoms in
    small_reduced (numbers ++ s.constant ∷ [])
    (list_all-append narrow numbers (s.constant ∷ [])
    ∙ and_from (all_narrow numbers) (narrow s.constant && true) (small_coefficients atoms s.products h.0) (and_from (narrow s.constant) true h.1 refl))

row_width : (atoms : List Term) (s : Sum) → length (row_of atoms s) ≡ length atoms + 1
row_width atoms s =
    let numbers : List ℤ = map (λ t. coefficient t s.products) atoms in
    length-reduced (numbers ++ s.constant ∷ [])
    ∙ (length-append numbers (s.constant ∷ []) ∙ ap (λ n. n + 1) (length-map atoms (λ t. coefficient t s.products)))

rows_narrow : (atoms : List Term) (ss : List Sum) → AllByRecursion IsSmall ss → AllByRecursion (λ row. IsTrue (all_narrow row)) (map (row_of atoms) ss)
rows_narrow atoms [] h = tt
rows_narrow atoms (s ∷ ss) h = (row_narrow atoms s h.0, rows_narrow atoms ss h.1)

rows_width : (atoms : List Term) (ss : List Sum) → AllByRecursion (λ row. length row ≡ length atoms + 1) (map (row_of atoms) ss)
rows_width atoms [] = tt
rows_width atoms (s ∷ ss) = (row_width atoms s, rows_width atoms ss)

pub rows_fit : RowsFit
rows_fit most vars fs few =
    let g : Gathered = gathered most vars fs in
    record {
      atoms = few.0;
      rows = omega (arith, few.1, length-map g.sums (row_of g.atoms));
      widths = rows_width g.atoms g.sums;
      numbers = rows_narrow g.atoms g.sums (small_gathered most vars fs);
    }
