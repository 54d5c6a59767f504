-- The rows of a sequent are narrow.
use Rattle.std.proofs.Common.{◌≡◌, ◌∙◌, sym, ap, refl, subst, ℤ, pos, negsuc, ◌+ℤ◌, Bool, true, false, ◌&&◌, List, [], ◌∷◌, length, map, take, Option, Some, None, option_and_then, if◌then◌else◌}
use Rattle.std.specs.List.{flat_map}
use Rattle.std.proofs.lemmas.Bool.{and_parts, and_from}
use Rattle.math_terms.specs.declared.descriptor.Sort.{Sort}
use Rattle.math_terms.specs.declared.name.RowName.{RowName}
use Rattle.math_terms.specs.declared.name.RowName.TheVariants.{Hyp, Second, Atom, Goal}
use Rattle.math_terms.specs.declared.term.Term.{Term}
use Rattle.math_terms.specs.declared.term.Term.TheOpen.{Term-F}
use Rattle.math_terms.specs.declared.term.Term.TheViews.{roll-Term, out-Term}
use Rattle.math_terms.specs.Kinds.{kind}
use Rattle.math_terms.specs.Sorts.{is_z}
use Rattle.num_theory.specs.Lines.{narrow}
use Rattle.num_theory.specs.declared.number.Number.TheVariants.{Exact}
use Rattle.num_theory.specs.Linear.{Form, Product, RawProduct, exact_product, formed, in_text_order, insert_product, linear_of, narrow_products, shown, shown_form, text_before}
use Rattle.num_theory.specs.working.Making.{IsWellMade}
use Rattle.num_theory.specs.Number.{exact, is_narrow}
use Rattle.num_theory.specs.Naming.{find_row, most_atoms, rows_at_hand}
use Rattle.num_theory.specs.Table.{Sum, facts_of}
use Rattle.num_theory.specs.Texts.{text}
use Rattle.num_theory.proofs.WellMade.{form_well, made_well}
use Rattle.cell_rows.specs.working.Finding.{numbered, row_by_name, row_of_some, unnamed}
use Rattle.cell_rows.specs.RowsStand.{Row, are_narrow, difference_row, equation_row, fact_form, fact_form_at, first_row, first_row_at, goal_row_at, second_row, second_row_at, shifted}
use Rattle.cell_rows.proofs.Named.{of_atom, of_goal, of_hyp, of_second}
use Rattle.cell_rows.proofs.Ordering.{narrow_exact, nonzero, nonzero_narrow}

-- products in another order
inserted_narrow : (p : Product) (ps : List Product) → narrow p.0 ≡ true → are_narrow ps ≡ true → are_narrow (insert_product p ps) ≡ true
inserted_narrow p [] h k = and_from (narrow p.0) true h refl
inserted_narrow p (q ∷ qs) h k =
    let parts = and_parts (narrow q.0) (are_narrow qs) k in
    by_test (text_before (text p.1) (text q.1)) (and_from (narrow q.0) (are_narrow (insert_product p qs)) parts.0 (inserted_narrow p qs h parts.1))
  where
    by_test : (b : Bool) → are_narrow (q ∷ insert_product p qs) ≡ true → are_narrow (if b then p ∷ q ∷ qs else q ∷ insert_product p qs) ≡ true
    by_test true later = and_from (narrow p.0) (are_narrow (q ∷ qs)) h k
    by_test false later = later

ordered_narrow : (ps : List Product) → are_narrow ps ≡ true → are_narrow (in_text_order ps) ≡ true
ordered_narrow [] h = refl
ordered_narrow (p ∷ ps) h =
    let parts = and_parts (narrow p.0) (are_narrow ps) h in
    inserted_narrow p (in_text_order ps) parts.0 (ordered_narrow ps parts.1)

exact_narrow : (ps : List RawProduct) → narrow_products ps ≡ true → are_narrow (map exact_product ps) ≡ true
exact_narrow [] h = refl
exact_narrow (p ∷ ps) h =
    let parts = and_parts (is_narrow p.0) (narrow_products ps) h in
    let here : narrow (exact p.0) ≡ true = ap is_narrow (sym (narrow_exact p.0 parts.0)) ∙ parts.0 in
    and_from (narrow (exact p.0)) (are_narrow (map exact_product ps)) here (exact_narrow ps parts.1)

-- a row that there may be, of narrow products, and of narrow products and a narrow constant
abbrev HasNarrow : Option Row → Type 0
HasNarrow None = Unit {0}
HasNarrow (Some r) = are_narrow r.0 ≡ true

abbrev IsNarrowRow : Option Row → Type 0
IsNarrowRow None = Unit {0}
IsNarrowRow (Some r) = (are_narrow r.0 ≡ true) × (narrow r.1 ≡ true)

shown_narrow : (f : Form) → IsWellMade f → HasNarrow (shown_form f)
shown_narrow f h = by_test f.is_narrow h
  where
    by_test : (b : Bool) → (b ≡ true → (narrow_products f.products ≡ true) × (is_narrow f.constant ≡ true)) → HasNarrow (if b then Some (shown f.products, exact f.constant) else None)
    by_test true well = ordered_narrow (map exact_product (nonzero f.products)) (exact_narrow (nonzero f.products) (nonzero_narrow f.products (well refl).0))
    by_test false well = tt

shifted_narrow : (shift : ℤ) (o : Option Row) → HasNarrow o → IsNarrowRow (shifted shift o)
shifted_narrow shift None h = tt
shifted_narrow shift (Some r) h = by_test (narrow (r.1 +ℤ shift)) refl
  where
    by_test : (b : Bool) → narrow (r.1 +ℤ shift) ≡ b → IsNarrowRow (if b then Some (r.0, r.1 +ℤ shift) else None)
    by_test true e = (h, e)
    by_test false e = tt

difference_narrow : (shift : ℤ) (a b : Term) → IsNarrowRow (difference_row shift a b)
difference_narrow shift a b =
    let t = roll-Term (Term-F.Sub b a) in
    shifted_narrow shift (linear_of t) (shown_narrow (formed t).1 (form_well t))

equation_narrow : (vars : List Sort) (a b : Term) (row : Option Row) → IsNarrowRow row → IsNarrowRow (equation_row vars a b row)
equation_narrow vars a b row h = by_test (is_z (kind vars a) && is_z (kind vars b))
  where
    by_test : (b : Bool) → IsNarrowRow (if b then row else None)
    by_test true = h
    by_test false = tt

first_narrow : (vars : List Sort) (x : Term-F Term) → IsNarrowRow (first_row_at vars x)
first_narrow vars (Term-F.Eq a b) = equation_narrow vars a b (difference_row (pos 0) a b) (difference_narrow (pos 0) a b)
first_narrow vars (Term-F.Less a b) = difference_narrow (negsuc 0) a b
first_narrow vars (Term-F.LessEq a b) = difference_narrow (pos 0) a b
first_narrow vars x = tt

second_narrow : (vars : List Sort) (x : Term-F Term) → IsNarrowRow (second_row_at vars x)
second_narrow vars (Term-F.Eq a b) = equation_narrow vars a b (difference_row (pos 0) b a) (difference_narrow (pos 0) b a)
second_narrow vars x = tt

goal_narrow : (x : Term-F Term) → IsNarrowRow (goal_row_at x)
goal_narrow (Term-F.Less a b) = difference_narrow (pos 0) b a
goal_narrow (Term-F.LessEq a b) = difference_narrow (negsuc 0) b a
goal_narrow x = tt

pub fact_well : (x : Term-F Term) → IsWellMade (fact_form_at x)
fact_well (Term-F.LessEq a b) = form_well (roll-Term (Term-F.Sub b a))
fact_well x = made_well true [] (Exact (pos 0))

fact_narrow : (o : Option Term) → IsNarrowRow (row_of_some o)
fact_narrow None = tt
fact_narrow (Some f) = shifted_narrow (pos 0) (shown_form (fact_form f)) (shown_narrow (fact_form f) (fact_well (out-Term f)))

first_of : (vars : List Sort) (o : Option Term) → IsNarrowRow (option_and_then (first_row vars) o)
first_of vars None = tt
first_of vars (Some f) = first_narrow vars (out-Term f)

second_of : (vars : List Sort) (o : Option Term) → IsNarrowRow (option_and_then (second_row vars) o)
second_of vars None = tt
second_of vars (Some f) = second_narrow vars (out-Term f)

module _ (vars : List Sort) (hs : List Term) (g : Term) where
  by_name : (name : RowName) → IsNarrowRow (row_by_name vars hs g name)
  by_name (Hyp k) = subst IsNarrowRow (sym (of_hyp vars hs g k)) (first_of vars (numbered hs k))
  by_name (Second k) = subst IsNarrowRow (sym (of_second vars hs g k)) (second_of vars (numbered hs k))
  by_name (Atom k) = subst IsNarrowRow (sym (of_atom vars hs g k)) (fact_narrow (numbered (flat_map facts_of (take most_atoms (rows_at_hand vars hs g).atoms)) k))
  by_name Goal = subst IsNarrowRow (sym (of_goal vars hs g)) (goal_narrow (out-Term g))

  -- a row that a name finds is narrow
  pub found_narrow : (name : RowName) (s : Sum) → find_row (length hs) name (rows_at_hand vars hs g).sums ≡ Some s → (are_narrow s.products ≡ true) × (narrow s.constant ≡ true)
  found_narrow name s e = subst (λ o. IsNarrowRow (unnamed o)) e (by_name name)
