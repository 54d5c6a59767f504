-- Adding products to products in place: those that are not yet added lie behind.
use Rattle.std.proofs.Common.{◌≡◌, ◌∙◌, sym, ap, subst, ℕ, ◌+◌, ◌<◌, ◌≤◌, ◌-◌, true, List, [], ◌∷◌, ◌++◌, length, get_or, set, take, drop, arith, length-take, length-drop}
use Rattle.std.proofs.lemmas.List.{drop-drop, get_or-take, get_or-drop, take_more, take_more_set, drop-set-lt, drop_all}
use Rattle.math_terms.specs.declared.term.Term.{Term}
use Rattle.num_theory.specs.Linear.{RawProduct, add_product, add_products}
use Rattle.term_cells.specs.declared.cell.Cell.{Cell}
use Rattle.term_cells.specs.Standing.{stands}
use Rattle.cell_rows.specs.Forms.{Mark, RawStand}
use Rattle.cell_rows.proofs.Marks.{stands_at, marks_counted}

-- what is added, and what is left to add
pub record Left (cells : List Cell) (ps qs : List RawProduct) (k total : ℕ) (marks : List Mark) : Type 0 where
  pub added : List RawProduct
  pub same : add_products ps qs ≡ add_products added (drop k qs)
  pub added_stand : RawStand cells added (take total marks)

pub record Merges (cells : List Cell) (count more : ℕ) (before : List Mark) (k total : ℕ) (marks : List Mark) : Type 0 where
  pub few : total ≤ count + k
  pub rest : drop (count + k) marks ≡ drop (count + k) before
  pub left : (ps qs : List RawProduct) → RawStand cells ps (take count before) → RawStand cells qs (take more (drop count before)) → Left cells ps qs k total marks

pub drop_more : {A : Type 0} (m n : ℕ) (xs ys : List A) → m ≤ n → drop m xs ≡ drop m ys → drop n xs ≡ drop n ys
drop_more m n xs ys l e =
    let split : m + (n - m) ≡ n = omega arith in
    ap (λ k. drop k xs) (sym split) ∙ sym (drop-drop (n - m) m xs) ∙ ap (drop (n - m)) e ∙ drop-drop (n - m) m ys ∙ ap (λ k. drop k ys) split

module _ (cells : List Cell) (count more : ℕ) (before : List Mark) (room : count + more ≤ length before) (k total : ℕ) (inside : k < more) (marks : List Mark) (was : Merges cells count more before k total marks) where
  -- the product at place k of those behind is still there
  read : (d : Mark) → get_or marks (count + k) d ≡ get_or (take more (drop count before)) k d
  read d =
      ap (λ j. get_or marks j d) zero_more ∙ sym (get_or-drop (count + k) marks 0 d) ∙ ap (λ xs. get_or xs 0 d) was.rest ∙ get_or-drop (count + k) before 0 d
      ∙ ap (λ j. get_or before j d) (sym zero_more) ∙ sym (get_or-drop count before k d) ∙ sym (get_or-take more (drop count before) k d inside)
    where
      zero_more : count + k ≡ count + k + 0
      zero_more = omega arith

  pub merges_more : (next : ℕ) (after : List Mark) (d : Mark) → next ≤ total + 1 → drop (total + 1) after ≡ drop (total + 1) marks →
      ((t : Term) (ps : List RawProduct) → stands cells t (get_or marks (count + k) d).1 ≡ true → RawStand cells ps (take total marks) →
      RawStand cells (add_product ((get_or marks (count + k) d).0, t) ps) (take next after)) →
      Merges cells count more before (k + 1) next after
  merges_more next after d few rest step = record {
    few = omega (arith, was.few, few);
    rest = drop_more (total + 1) (count + (k + 1)) after marks (omega (arith, was.few)) rest ∙ drop_more (count + k) (count + (k + 1)) marks before (omega arith) was.rest;
    left = λ ps qs h g.
        let l = was.left ps qs h g in
        let size : k < length (take more (drop count before)) = omega (arith, length-take more (drop count before), length-drop count before) in
        let q = stands_at cells qs (take more (drop count before)) g k size d in
        let there = read d in
        let made = step q.0.1 l.added (subst (λ (m : Mark). stands cells q.0.1 m.1 ≡ true) (sym there) q.3) l.added_stand in
        let is : (get_or marks (count + k) d).0 ≡ q.0.0 = ap (λ (m : Mark). m.0) there ∙ q.2 in
        record {
          added = add_product q.0 l.added;
          same = l.same ∙ ap (add_products l.added) q.1;
          added_stand = subst (λ z. RawStand cells (add_product (z, q.0.1) l.added) (take next after)) is made;
        };
  }

-- when all are added
pub merged : (cells : List Cell) (ps qs : List RawProduct) (k total more : ℕ) (marks behind : List Mark) → Left cells ps qs k total marks → RawStand cells qs (take more behind) → more ≤ k →
    RawStand cells (add_products ps qs) (take total marks)
merged cells ps qs k total more marks behind l g past =
    let size : length qs ≤ k = omega (arith, marks_counted cells qs (take more behind) g, length-take more behind) in
    subst (λ rs. RawStand cells rs (take total marks)) (sym (l.same ∙ ap (add_products l.added) (drop_all k qs size))) l.added_stand

-- one more of those behind is at the start
pub moved : (count more k : ℕ) (before marks : List Mark) (d : Mark) → count + more ≤ length before → length marks ≡ length before → k < more →
    (take k marks ≡ take k (drop count before)) × (drop (count + k) marks ≡ drop (count + k) before) →
    (take (k + 1) (set marks k (get_or marks (count + k) d)) ≡ take (k + 1) (drop count before)) × (drop (count + (k + 1)) (set marks k (get_or marks (count + k) d)) ≡ drop (count + (k + 1)) before)
moved count more k before marks d room same inside was =
    let zero_more : count + k ≡ count + k + 0 = omega arith in
    let read : get_or marks (count + k) d ≡ get_or (drop count before) k d =
    ap (λ j. get_or marks j d) zero_more ∙ sym (get_or-drop (count + k) marks 0 d) ∙ ap (λ xs. get_or xs 0 d) was.1 ∙ get_or-drop (count + k) before 0 d
    ∙ ap (λ j. get_or before j d) (sym zero_more) ∙ sym (get_or-drop count before k d) in
    let size : k < length (drop count before) = omega (arith, length-drop count before) in (
      take_more_set marks k (get_or marks (count + k) d) (omega arith) ∙ (λ i. was.0 i ++ read i ∷ []) ∙ sym (take_more (drop count before) k d size),
      drop-set-lt (count + (k + 1)) marks k (get_or marks (count + k) d) (omega arith) ∙ drop_more (count + k) (count + (k + 1)) marks before (omega arith) was.1,
    )
