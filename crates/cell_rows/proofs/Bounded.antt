-- No atom of a row has more nodes than what the row is made from.
use Rattle.std.proofs.Common.{◌≡◌, sym, refl, subst, ℕ, zero, suc, ◌+◌, ◌<◌, ◌≤◌, ℤ, pos, negsuc, ◌+ℤ◌, Bool, true, false, ◌&&◌, not, List, [], ◌∷◌, map, Option, Some, None, slice_get, if◌then◌else◌, arith}
use Rattle.std.specs.List.{AllByRecursion, filter}
use Rattle.math_terms.specs.declared.descriptor.Sort.{Sort}
use Rattle.math_terms.specs.declared.term.Term.{Term}
use Rattle.math_terms.specs.declared.term.Term.TheOpen.{Term-F}
use Rattle.math_terms.specs.declared.term.Term.TheViews.{out-Term, roll-Term, roll-out-Term}
use Rattle.math_terms.specs.Heads.{same_term}
use Rattle.math_terms.specs.Kinds.{kind}
use Rattle.math_terms.specs.Sorts.{is_z}
use Rattle.math_terms.specs.Terms.{nodes, nodes_step}
use Rattle.num_theory.specs.Lines.{narrow}
use Rattle.num_theory.specs.declared.number.Number.{Number}
use Rattle.num_theory.specs.Number.{exact, is_zero, sum}
use Rattle.num_theory.specs.Linear.{Form, Formed, Product, RawProduct, add_product, add_products, atom_form, exact_product, formed, in_text_order, insert_product, is_constant, linear_of, minus_one, multiple, plus, product_form, remainder_by, remainder_over, scaled, shown, shown_form, text_before, times}
use Rattle.num_theory.specs.Table.{facts_at, facts_by, facts_of, last_of, less_eq, multiple_of, num}
use Rattle.num_theory.specs.Texts.{text}
use Rattle.num_theory.proofs.Forming.{form_at, form_other, formed_first}
use Rattle.num_theory.proofs.Heads.{fold_at}
use Rattle.cell_rows.specs.working.Facts.{last_form, literal_of, lower_form, multiple_form, upper_form}
use Rattle.cell_rows.specs.RowsStand.{Row, difference_row, equation_row, fact_form, fact_row, first_row, first_row_at, goal_row, goal_row_at, second_row, second_row_at, shifted}
use Rattle.cell_rows.proofs.Quotients.{length_form, lower_is, over_literal, upper_is}

-- no atom of the products has more nodes than so many
abbrev pub SmallProducts : {C : Type 0} → ℕ → List (C × Term) → Type 0
SmallProducts most [] = Unit {0}
SmallProducts most (p ∷ ps) = (nodes p.1 ≤ most) × SmallProducts most ps

-- no atom of the row, where there is one
abbrev pub SmallRow : ℕ → Option Row → Type 0
SmallRow most None = Unit {0}
SmallRow most (Some r) = SmallProducts most r.0

pub small_more : {C : Type 0} (few many : ℕ) (ps : List (C × Term)) → few ≤ many → SmallProducts few ps → SmallProducts many ps
small_more few many [] l h = tt
small_more few many (p ∷ ps) l h = (omega (arith, h.0), small_more few many ps l h.1)

pub row_more : (few many : ℕ) (r : Option Row) → few ≤ many → SmallRow few r → SmallRow many r
row_more few many None l h = tt
row_more few many (Some r) l h = small_more few many r.0 l h

module _ (most : ℕ) where
  -- products that are added, multiplied and put in order
  add_one : (p : RawProduct) (ps : List RawProduct) → nodes p.1 ≤ most → SmallProducts most ps → SmallProducts most (add_product p ps)
  add_one p [] n h = (n, tt)
  add_one p (q ∷ qs) n h = by_test (same_term p.1 q.1) (add_one p qs n h.1)
    where
      by_test : (b : Bool) → SmallProducts most (add_product p qs) → SmallProducts most (if b then (sum q.0 p.0, q.1) ∷ qs else q ∷ add_product p qs)
      by_test true r = h
      by_test false r = (h.0, r)

  add_all : (ps qs : List RawProduct) → SmallProducts most ps → SmallProducts most qs → SmallProducts most (add_products ps qs)
  add_all ps [] h k = h
  add_all ps (q ∷ qs) h k = add_all (add_product q ps) qs (add_one q ps k.0 h) k.1

  scale_all : (k : Number) (ps : List RawProduct) → SmallProducts most ps → SmallProducts most (map (scaled k) ps)
  scale_all k [] h = tt
  scale_all k (p ∷ ps) h = (h.0, scale_all k ps h.1)

  keep_some : (test : RawProduct → Bool) (ps : List RawProduct) → SmallProducts most ps → SmallProducts most (filter test ps)
  keep_some test [] h = tt
  keep_some test (p ∷ ps) h = by_test (test p) (keep_some test ps h.1)
    where
      by_test : (b : Bool) → SmallProducts most (filter test ps) → SmallProducts most (if b then p ∷ filter test ps else filter test ps)
      by_test true r = (h.0, r)
      by_test false r = r

  exact_small : (ps : List RawProduct) → SmallProducts most ps → SmallProducts most (map exact_product ps)
  exact_small [] h = tt
  exact_small (p ∷ ps) h = (h.0, exact_small ps h.1)

  put_one : (p : Product) (ps : List Product) → nodes p.1 ≤ most → SmallProducts most ps → SmallProducts most (insert_product p ps)
  put_one p [] n h = (n, tt)
  put_one p (q ∷ qs) n h = by_test (text_before (text p.1) (text q.1)) (put_one p qs n h.1)
    where
      by_test : (b : Bool) → SmallProducts most (insert_product p qs) → SmallProducts most (if b then p ∷ q ∷ qs else q ∷ insert_product p qs)
      by_test true r = (n, h)
      by_test false r = (h.0, r)

  put_all : (ps : List Product) → SmallProducts most ps → SmallProducts most (in_text_order ps)
  put_all [] h = tt
  put_all (p ∷ ps) h = put_one p (in_text_order ps) h.0 (put_all ps h.1)

  -- forms
  sum_small : (f g : Form) → SmallProducts most f.products → SmallProducts most g.products → SmallProducts most (plus f g).products
  sum_small f g h k = add_all f.products g.products h k

  difference_form_small : (f g : Form) → SmallProducts most f.products → SmallProducts most g.products → SmallProducts most (plus f (times minus_one g)).products
  difference_form_small f g h k = sum_small f (times minus_one g) h (scale_all minus_one g.products k)

  product_small : (a b : Formed) → SmallProducts most a.1.products → SmallProducts most b.1.products → nodes (roll-Term (Term-F.Mul a.0 b.0)) ≤ most → SmallProducts most (product_form a b).products
  product_small a b h k n = by_tests (is_constant b.1) (is_constant a.1)
    where
      by_tests : (x y : Bool) → SmallProducts most (if x then multiple b.1 a.1 else if y then multiple a.1 b.1 else atom_form (roll-Term (Term-F.Mul a.0 b.0))).products
      by_tests true y = scale_all b.1.constant a.1.products h
      by_tests false true = scale_all a.1.constant b.1.products k
      by_tests false false = (n, tt)

  module _ (a b : Formed) (first : SmallProducts most a.1.products) (quotient : nodes (roll-Term (Term-F.Div a.0 b.0)) ≤ most) (remainder : nodes (roll-Term (Term-F.Mod a.0 b.0)) ≤ most) where
    remainder_by_small : (n : ℤ) → SmallProducts most (remainder_by a b n).products
    remainder_by_small (pos zero) = (remainder, tt)
    remainder_by_small (pos (suc n)) = sum_small a.1 (multiple (times minus_one b.1) (atom_form (roll-Term (Term-F.Div a.0 b.0)))) first (quotient, tt)
    remainder_by_small (negsuc n) = (remainder, tt)

    remainder_small : (x : Term-F Term) → SmallProducts most (remainder_over a b x).products
    remainder_small (Term-F.Num n) = remainder_by_small n
    remainder_small x = (remainder, tt)

  -- rows
  shifted_small : (shift : ℤ) (r : Option Row) → SmallRow most r → SmallRow most (shifted shift r)
  shifted_small shift None h = tt
  shifted_small shift (Some f) h = by_test (narrow (f.1 +ℤ shift))
    where
      by_test : (b : Bool) → SmallRow most (if b then Some (f.0, f.1 +ℤ shift) else None)
      by_test true = h
      by_test false = tt

  shown_small : (f : Form) → SmallProducts most f.products → SmallRow most (shown_form f)
  shown_small f h = by_test f.is_narrow
    where
      by_test : (b : Bool) → SmallRow most (if b then Some (shown f.products, exact f.constant) else None)
      by_test true = put_all (map exact_product (filter (λ p. not (is_zero p.0)) f.products)) (exact_small (filter (λ p. not (is_zero p.0)) f.products) (keep_some (λ p. not (is_zero p.0)) f.products h))
      by_test false = tt

itself : (t : Term) → SmallProducts (nodes t) (atom_form t).products
itself t = (omega arith, tt)

-- a node of two formed terms is the node of the terms
both_formed : (node : Term → Term → Term-F Term) (a b : Term) → nodes (roll-Term (node (formed a).0 (formed b).0)) ≡ nodes (roll-Term (node a b))
both_formed node a b = λ i. nodes (roll-Term (node (formed_first a i) (formed_first b i)))

node_small : (t : Term) (x : Term-F Term) → t ≡ roll-Term x → ((u : Term) → nodes u < nodes t → SmallProducts (nodes t) (formed u).1.products) → SmallProducts (nodes t) (formed t).1.products
node_small t (Term-F.Num n) e part = subst (λ (f : Form). SmallProducts (nodes t) f.products) (sym (form_at (Term-F.Num n) t e)) tt
node_small t (Term-F.Add a b) e part =
    let size : nodes t ≡ 1 + nodes a + nodes b = fold_at nodes_step (Term-F.Add a b) t e in
    subst (λ (f : Form). SmallProducts (nodes t) f.products) (sym (form_at (Term-F.Add a b) t e))
    (sum_small (nodes t) (formed a).1 (formed b).1 (part a (omega arith)) (part b (omega arith)))
node_small t (Term-F.Sub a b) e part =
    let size : nodes t ≡ 1 + nodes a + nodes b = fold_at nodes_step (Term-F.Sub a b) t e in
    subst (λ (f : Form). SmallProducts (nodes t) f.products) (sym (form_at (Term-F.Sub a b) t e))
    (difference_form_small (nodes t) (formed a).1 (formed b).1 (part a (omega arith)) (part b (omega arith)))
node_small t (Term-F.Mul a b) e part =
    let size : nodes t ≡ 1 + nodes a + nodes b = fold_at nodes_step (Term-F.Mul a b) t e in
    let there : nodes (roll-Term (Term-F.Mul a b)) ≡ 1 + nodes a + nodes b = fold_at nodes_step (Term-F.Mul a b) (roll-Term (Term-F.Mul a b)) refl in
    subst (λ (f : Form). SmallProducts (nodes t) f.products) (sym (form_at (Term-F.Mul a b) t e))
    (product_small (nodes t) (formed a) (formed b) (part a (omega arith)) (part b (omega arith)) (omega (arith, both_formed Term-F.Mul a b)))
node_small t (Term-F.Mod a b) e part =
    let size : nodes t ≡ 1 + nodes a + nodes b = fold_at nodes_step (Term-F.Mod a b) t e in
    let there : nodes (roll-Term (Term-F.Mod a b)) ≡ 1 + nodes a + nodes b = fold_at nodes_step (Term-F.Mod a b) (roll-Term (Term-F.Mod a b)) refl in
    let quotient : nodes (roll-Term (Term-F.Div a b)) ≡ 1 + nodes a + nodes b = fold_at nodes_step (Term-F.Div a b) (roll-Term (Term-F.Div a b)) refl in
    subst (λ (f : Form). SmallProducts (nodes t) f.products) (sym (form_at (Term-F.Mod a b) t e))
    (remainder_small (nodes t) (formed a) (formed b) (part a (omega arith)) (omega (arith, both_formed Term-F.Div a b)) (omega (arith, both_formed Term-F.Mod a b)) (out-Term (formed b).0))
node_small t x e part = subst (λ (f : Form). SmallProducts (nodes t) f.products) (sym (form_other x t e refl)) (itself t)

formed_within : (n : ℕ) (t : Term) → nodes t < n → SmallProducts (nodes t) (formed t).1.products
formed_within zero t l = absurd (omega arith)
formed_within (suc n) t l = node_small t (out-Term t) (sym (roll-out-Term t)) (λ u m. small_more (nodes u) (nodes t) (formed u).1.products (omega arith) (formed_within n u (omega arith)))

pub formed_small : (t : Term) → SmallProducts (nodes t) (formed t).1.products
formed_small t = formed_within (nodes t + 1) t (omega arith)

-- the rows of formulas
difference_small : (most : ℕ) (shift : ℤ) (a b : Term) → 1 + nodes a + nodes b ≤ most → SmallRow most (difference_row shift a b)
difference_small most shift a b l =
    let d = roll-Term (Term-F.Sub b a) in
    let size : nodes d ≡ 1 + nodes b + nodes a = fold_at nodes_step (Term-F.Sub b a) d refl in
    shifted_small most shift (linear_of d) (shown_small most (formed d).1 (small_more (nodes d) most (formed d).1.products (omega arith) (formed_small d)))

module _ (vars : List Sort) where
  equation_small : (most : ℕ) (a b : Term) (row : Option Row) → SmallRow most row → SmallRow most (equation_row vars a b row)
  equation_small most a b row h = by_test (is_z (kind vars a) && is_z (kind vars b))
    where
      by_test : (t : Bool) → SmallRow most (if t then row else None)
      by_test true = h
      by_test false = tt

  first_small_at : (f : Term) (x : Term-F Term) → f ≡ roll-Term x → SmallRow (nodes f) (first_row_at vars x)
  first_small_at f (Term-F.LessEq a b) e = difference_small (nodes f) (pos 0) a b (omega (arith, fold_at nodes_step (Term-F.LessEq a b) f e))
  first_small_at f (Term-F.Less a b) e = difference_small (nodes f) (negsuc 0) a b (omega (arith, fold_at nodes_step (Term-F.Less a b) f e))
  first_small_at f (Term-F.Eq a b) e = equation_small (nodes f) a b (difference_row (pos 0) a b) (difference_small (nodes f) (pos 0) a b (omega (arith, fold_at nodes_step (Term-F.Eq a b) f e)))
  first_small_at f x e = tt

  second_small_at : (f : Term) (x : Term-F Term) → f ≡ roll-Term x → SmallRow (nodes f) (second_row_at vars x)
  second_small_at f (Term-F.Eq a b) e = equation_small (nodes f) a b (difference_row (pos 0) b a) (difference_small (nodes f) (pos 0) b a (omega (arith, fold_at nodes_step (Term-F.Eq a b) f e)))
  second_small_at f x e = tt

  pub first_small : (f : Term) → SmallRow (nodes f) (first_row vars f)
  first_small f = first_small_at f (out-Term f) (sym (roll-out-Term f))

  pub second_small : (f : Term) → SmallRow (nodes f) (second_row vars f)
  second_small f = second_small_at f (out-Term f) (sym (roll-out-Term f))

goal_small_at : (f : Term) (x : Term-F Term) → f ≡ roll-Term x → SmallRow (nodes f) (goal_row_at x)
goal_small_at f (Term-F.LessEq a b) e = difference_small (nodes f) (negsuc 0) b a (omega (arith, fold_at nodes_step (Term-F.LessEq a b) f e))
goal_small_at f (Term-F.Less a b) e = difference_small (nodes f) (pos 0) b a (omega (arith, fold_at nodes_step (Term-F.Less a b) f e))
goal_small_at f x e = tt

pub goal_small : (f : Term) → SmallRow (nodes f) (goal_row f)
goal_small f = goal_small_at f (out-Term f) (sym (roll-out-Term f))

-- the rows of facts
fact_small : (most : ℕ) (fact : Term) (f : Form) → fact_form fact ≡ f → SmallProducts most f.products → SmallRow most (fact_row fact)
fact_small most fact f e h =
    shifted_small most (pos 0) (shown_form (fact_form fact)) (shown_small most (fact_form fact) (subst (λ (x : Form). SmallProducts most x.products) (sym e) h))

abbrev pub SmallFacts : ℕ → List Term → Type 0
SmallFacts most fs = AllByRecursion (λ f. SmallRow most (fact_row f)) fs

pub facts_more : (few many : ℕ) (fs : List Term) → few ≤ many → SmallFacts few fs → SmallFacts many fs
facts_more few many [] l h = tt
facts_more few many (f ∷ fs) l h = (row_more few many (fact_row f) l h.0, facts_more few many fs l h.1)

module _ (q : Term) (atom : (formed q).1 ≡ atom_form q) (t : Term) (less : nodes t ≤ nodes q) where
  divided_small : SmallProducts (nodes q) (formed t).1.products
  divided_small = small_more (nodes t) (nodes q) (formed t).1.products less (formed_small t)

  quotient_small : (n : ℤ) → SmallFacts (nodes q) (facts_by q t n)
  quotient_small (pos zero) = tt
  quotient_small (pos (suc n)) = (
    fact_small (nodes q) (less_eq (multiple_of (pos (suc n)) q) t) (lower_form (pos (suc n)) q t) (lower_is q atom (pos (suc n)) t) (sum_small (nodes q) (formed t).1 (times minus_one (multiple_form (pos (suc n)) q)) divided_small (omega arith, tt)),
    (
      fact_small (nodes q) (less_eq t (last_of (pos (suc n)) q)) (upper_form (pos (suc n)) q t) (upper_is q atom (pos (suc n)) t) (difference_form_small (nodes q) (last_form (pos (suc n)) q) (formed t).1 (omega arith, tt) divided_small),
      tt,
    ),
  )
  quotient_small (negsuc n) = tt

facts_small_at : (t : Term) (x : Term-F Term) → t ≡ roll-Term x → SmallFacts (nodes t) (facts_at t x)
facts_small_at t (Term-F.Len s) e = (fact_small (nodes t) (less_eq (num (pos 0)) t) (atom_form t) (length_form t (form_other (Term-F.Len s) t e refl)) (itself t), tt)
facts_small_at t (Term-F.Div a b) e =
    let size : nodes t ≡ 1 + nodes a + nodes b = fold_at nodes_step (Term-F.Div a b) t e in
    subst (SmallFacts (nodes t)) (sym (over_literal t a (out-Term b))) (quotient_small t (form_other (Term-F.Div a b) t e refl) a (omega arith) (literal_of (out-Term b)))
facts_small_at t x e = tt

pub facts_small : (t : Term) → SmallFacts (nodes t) (facts_of t)
facts_small t = facts_small_at t (out-Term t) (sym (roll-out-Term t))

pub fact_at_small : (most : ℕ) (fs : List Term) (k : ℕ) (f : Term) → SmallFacts most fs → slice_get fs k ≡ Some f → SmallRow most (fact_row f)
fact_at_small most [] k f h e = cc
fact_at_small most (g ∷ fs) zero f h e =
    let same : g ≡ f = cc in
    subst (λ x. SmallRow most (fact_row x)) same h.0
fact_at_small most (g ∷ fs) (suc k) f h e = fact_at_small most fs k f h.1 e

-- a fact on an atom of so many nodes
pub fact_within : (most : ℕ) (t : Term) (k : ℕ) (f : Term) → nodes t ≤ most → slice_get (facts_of t) k ≡ Some f → SmallRow most (fact_row f)
fact_within most t k f l e = row_more (nodes t) most (fact_row f) l (fact_at_small (nodes t) (facts_of t) k f (facts_small t) e)
