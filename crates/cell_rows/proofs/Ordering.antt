-- Products in cells that are left out or put into order.
use Rattle.std.proofs.Common.{◌≡◌, ◌∙◌, sym, ap, refl, subst, ℕ, zero, suc, ◌==◌, ◌<◌, ◌≤◌, ◌-◌, Bool, true, false, not, List, [], ◌∷◌, ◌++◌, length, map, get_or, set, take, drop, if◌then◌else◌, arith}
use Rattle.std.specs.List.{filter}
use Rattle.std.proofs.lemmas.Bool.{and_from, and_parts, false≢true}
use Rattle.std.proofs.lemmas.List.{take_rest, drop_all, append-nil}
use Rattle.std.proofs.lemmas.Grind.{common_steps}
use borrow.Rule.Slice.PartMut.{put_mid}
use Rattle.math_terms.specs.declared.term.Term.{Term}
use Rattle.num_theory.specs.declared.number.Number.{Number}
use Rattle.num_theory.specs.declared.number.Number.TheVariants.{Exact, Lost}
use Rattle.num_theory.specs.Linear.{Product, RawProduct, exact_product, in_text_order, insert_product, narrow_products, text_before}
use Rattle.num_theory.specs.Number.{exact, is_narrow, is_zero}
use Rattle.num_theory.specs.Texts.{text}
use Rattle.term_cells.specs.declared.cell.Cell.{Cell}
use Rattle.term_cells.specs.Standing.{stands}
use Rattle.term_cells.proofs.Lasting.{stands_inside}
use Rattle.cell_rows.specs.Forms.{Mark, ProductsStand, RawStand}

-- a narrow number is an integer
pub narrow_exact : (n : Number) → is_narrow n ≡ true → n ≡ Exact (exact n)
narrow_exact (Exact z) h = refl
narrow_exact Lost h = absurd (false≢true h)

-- products without those of coefficient 0
abbrev pub nonzero : List RawProduct → List RawProduct
nonzero ps = filter (λ (p : RawProduct). not (is_zero p.0)) ps

pub nonzero_narrow : (ps : List RawProduct) → narrow_products ps ≡ true → narrow_products (nonzero ps) ≡ true
nonzero_narrow [] h = refl
nonzero_narrow (p ∷ ps) h =
    let parts = and_parts (is_narrow p.0) (narrow_products ps) h in
    by_test (not (is_zero p.0)) parts.0 (nonzero_narrow ps parts.1)
  where
    by_test : (b : Bool) → is_narrow p.0 ≡ true → narrow_products (nonzero ps) ≡ true → narrow_products (if b then p ∷ nonzero ps else nonzero ps) ≡ true
    by_test true here rest = and_from (is_narrow p.0) (narrow_products (nonzero ps)) here rest
    by_test false here rest = rest

module _ (cells : List Cell) where
  exact_stand : (ps : List RawProduct) (ms : List Mark) → narrow_products ps ≡ true → RawStand cells ps ms → ProductsStand cells (map exact_product ps) ms
  exact_stand [] [] n h = tt
  exact_stand [] (m ∷ ms) n h = absurd h
  exact_stand (p ∷ ps) [] n h = absurd h
  exact_stand (p ∷ ps) (m ∷ ms) n h =
      let parts = and_parts (is_narrow p.0) (narrow_products ps) n in
      (h.0 ∙ narrow_exact p.0 parts.0, h.1, exact_stand ps ms parts.1 h.2)

  pub filtered : (ps : List RawProduct) (ms : List Mark) → RawStand cells ps ms → RawStand cells (nonzero ps) (filter (λ (m : Mark). not (is_zero m.0)) ms)
  filtered [] [] h = tt
  filtered [] (m ∷ ms) h = absurd h
  filtered (p ∷ ps) [] h = absurd h
  filtered (p ∷ ps) (m ∷ ms) h = by_test (is_zero p.0) (is_zero m.0) refl refl (ap is_zero h.0) (filtered ps ms h.2)
    where
      by_test : (a b : Bool) → is_zero p.0 ≡ a → is_zero m.0 ≡ b → is_zero m.0 ≡ is_zero p.0 → RawStand cells (nonzero ps) (filter (λ (m : Mark). not (is_zero m.0)) ms) →
          RawStand cells (nonzero (p ∷ ps)) (filter (λ (m : Mark). not (is_zero m.0)) (m ∷ ms))
      by_test true true f g e rest = rw (f, g) rest
      by_test true false f g e rest = absurd (false≢true (sym g ∙ e ∙ f))
      by_test false true f g e rest = absurd (false≢true (sym f ∙ sym e ∙ g))
      by_test false false f g e rest = rw (f, g) (h.0, h.1, rest)

  -- one product is in order
  pub placed_alone : (p : Product) (ps : List Product) (ms : List Mark) → length ms < 2 → ProductsStand cells (p ∷ ps) ms → ProductsStand cells (insert_product p ps) ms
  placed_alone p [] ms l h = h
  placed_alone p (q ∷ qs) [] l h = absurd h
  placed_alone p (q ∷ qs) (m ∷ []) l h = absurd h.2
  placed_alone p (q ∷ qs) (m ∷ n ∷ ms) l h = absurd (omega arith)

  -- the answer to whether the text of the first product stands before that of the second
  pub IsBefore : List Mark → Mark → Bool → Type 0
  IsBefore ms d b = (t u : Term) → stands cells t (get_or ms 0 d).1 ≡ true → stands cells u (get_or ms 1 d).1 ≡ true → b ≡ text_before (text t) (text u)

  pub placed_first : (p : Product) (ps : List Product) (ms : List Mark) (d : Mark) → IsBefore ms d true → ProductsStand cells (p ∷ ps) ms → ProductsStand cells (insert_product p ps) ms
  unfolding IsBefore
  placed_first p [] ms d b h = h
  placed_first p (q ∷ qs) [] d b h = absurd h
  placed_first p (q ∷ qs) (m ∷ []) d b h = absurd h.2
  placed_first p (q ∷ qs) (m ∷ n ∷ ms) d b h = rw (sym (b p.1 q.1 h.1 h.2.1)) h

  -- the first product and the second change places, and the first goes on
  pub placed_later : (p : Product) (ps : List Product) (ms : List Mark) (d : Mark) (new : List Mark) → 2 ≤ length ms → IsBefore ms d false →
      (let swapped = set (set ms 0 (get_or ms 1 d)) 1 (get_or ms 0 d) in
      ((r : Product) (rs : List Product) → ProductsStand cells (r ∷ rs) (take (length swapped - 1) (drop 1 swapped)) → ProductsStand cells (insert_product r rs) new) →
      ProductsStand cells (p ∷ ps) ms → ProductsStand cells (insert_product p ps) (put_mid 1 (length swapped - 1) swapped new))
  unfolding IsBefore
  placed_later p ps [] d new l b rest h = absurd (omega arith)
  placed_later p ps (m ∷ []) d new l b rest h = absurd (omega arith)
  placed_later p [] (m ∷ n ∷ ms) d new l b rest h = absurd h.2
  placed_later p (q ∷ qs) (m ∷ n ∷ ms) d new l b rest h =
      let swapped : List Mark = n ∷ m ∷ ms in
      let inner : take (length swapped - 1) (drop 1 swapped) ≡ m ∷ ms = take_rest swapped 1 in
      let end : drop (length swapped - 1) (m ∷ ms) ≡ [] = drop_all (length swapped - 1) (m ∷ ms) (omega arith) in
      let whole : n ∷ (new ++ drop (length swapped - 1) (m ∷ ms)) ≡ n ∷ new = ap (λ xs. n ∷ (new ++ xs)) end ∙ ap (λ xs. n ∷ xs) (append-nil new) in
      let later = rest p qs (subst (ProductsStand cells (p ∷ qs)) (sym inner) (h.0, h.1, h.2.2)) in
      rw (sym (b p.1 q.1 h.1 h.2.1)) (subst (ProductsStand cells (q ∷ insert_product p qs)) (sym whole) (h.2.0, h.2.1, later))

  -- the others are in order, and then the first goes to its place
  pub ordered_more : (ps : List Product) (ms : List Mark) (new after : List Mark) → 0 < length ms →
      ((rs : List Product) → ProductsStand cells rs (take (length ms - 1) (drop 1 ms)) → ProductsStand cells (in_text_order rs) new) →
      ((r : Product) (rs : List Product) → ProductsStand cells (r ∷ rs) (put_mid 1 (length ms - 1) ms new) → ProductsStand cells (insert_product r rs) after) →
      ProductsStand cells ps ms → ProductsStand cells (in_text_order ps) after
  ordered_more ps [] new after l rest first h = absurd (omega arith)
  ordered_more [] (m ∷ ms) new after l rest first h = absurd h
  ordered_more (p ∷ ps) (m ∷ ms) new after l rest first h =
      let inner : take (length (m ∷ ms) - 1) ms ≡ ms = take_rest (m ∷ ms) 1 in
      let end : drop (length (m ∷ ms) - 1) ms ≡ [] = drop_all (length (m ∷ ms) - 1) ms (omega arith) in
      let whole : m ∷ (new ++ drop (length (m ∷ ms) - 1) ms) ≡ m ∷ new = ap (λ xs. m ∷ (new ++ xs)) end ∙ ap (λ xs. m ∷ xs) (append-nil new) in
      let others = rest ps (subst (ProductsStand cells ps) (sym inner) h.2) in
      first p (in_text_order ps) (subst (ProductsStand cells (p ∷ in_text_order ps)) (sym whole) (h.0, h.1, others))

  pub none_ordered : (ps : List Product) (ms : List Mark) → ms ≡ [] → ProductsStand cells ps ms → ProductsStand cells (in_text_order ps) ms
  none_ordered ps ms e h = by_list ps ms e h
    where
      by_list : (ps : List Product) (ms : List Mark) → ms ≡ [] → ProductsStand cells ps ms → ProductsStand cells (in_text_order ps) ms
      by_list [] ms e h = h
      by_list (p ∷ ps) [] e h = absurd h
      by_list (p ∷ ps) (m ∷ ms) e h = cc

  pub shown_stand : (ps : List RawProduct) (ms kept new : List Mark) (left : ℕ) → (xs ys : List Mark) → narrow_products ps ≡ true →
      take left kept ≡ filter (λ (m : Mark). not (is_zero m.0)) ms → RawStand cells ps ms →
      ((rs : List Product) → ProductsStand cells rs (take left (kept ++ xs)) → ProductsStand cells (in_text_order rs) new) → left ≤ length kept → length new ≡ left →
      ProductsStand cells (in_text_order (map exact_product (nonzero ps))) (take left (new ++ ys))
  shown_stand ps ms kept new left xs ys narrow is h rest room size =
      let front : take left (kept ++ xs) ≡ take left kept = grind (arith, common_steps) in
      let all : take left (new ++ ys) ≡ new = grind (arith, common_steps) in
      subst (ProductsStand cells (in_text_order (map exact_product (nonzero ps)))) (sym all)
      (rest (map exact_product (nonzero ps)) (exact_stand (nonzero ps) (take left (kept ++ xs)) (nonzero_narrow ps narrow) (subst (RawStand cells (nonzero ps)) (sym (front ∙ is)) (filtered ps ms h))))

  pub before_is : (ms : List Mark) (d : Mark) (room : ℕ) (r b : Bool) → length cells ≤ room → r ≡ b →
      ((t u : Term) → stands cells t (get_or ms 0 d).1 ≡ true → stands cells u (get_or ms 1 d).1 ≡ true → (get_or ms 0 d).1 < room → (get_or ms 1 d).1 < room → r ≡ text_before (text t) (text u)) →
      IsBefore ms d b
  unfolding IsBefore
  before_is ms d room r b l e order = λ t u h g.
      let p = stands_inside cells t (get_or ms 0 d).1 h in
      let q = stands_inside cells u (get_or ms 1 d).1 g in
      sym e ∙ order t u h g (omega (arith, p)) (omega (arith, q))

pub some_from : (n : ℕ) → (n == 0) ≡ false → 0 < n
some_from zero e = cc
some_from (suc n) e = omega arith
