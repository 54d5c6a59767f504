-- The children of a node in a cell, and the node with another child.
use Rattle.std.proofs.Common.{◌≡◌, ◌∙◌, sym, ap, refl, ℕ, zero, suc, ◌==◌, ◌<◌, ℤ, pos, true, false, ◌&&◌, List, [], ◌∷◌, length, map, set, Some, slice_get, arith}
use Rattle.std.proofs.lemmas.Bool.{and_parts, and_from}
use Rattle.math_terms.specs.declared.term.Term.{Term}
use Rattle.math_terms.specs.declared.term.Term.TheOpen.{Term-F}
use Rattle.math_terms.specs.declared.term.Term.TheViews.{out-Term}
use Rattle.math_terms.specs.Forms.{arity, form as form_of}
use Rattle.math_terms.specs.Heads.{children, form, own}
use Rattle.math_terms.specs.Positions.{first_of_two, with_child}
use Rattle.term_cells.specs.declared.cell.Cell.{Cell}
use Rattle.term_cells.specs.Growing.{HasHead}
use Rattle.term_cells.specs.KindShown.{PartAt}
use Rattle.term_cells.specs.Laws.{IsNodeAt, StandsBelowNext, children_at}
use Rattle.term_cells.specs.Standing.{few_stand, parts_stand, quotient_stands, stands, stands_below}
use Rattle.cell_rules.specs.Exchanging.{place_of, with_place}

-- the children of a node that is no tuple
pub few_children : (cells : List Cell) (x : Term-F Term) (c : Cell) (at : ℕ) → (form x == 16) ≡ false → children_at cells x c at ≡ true → few_stand (map (stands cells) (children x)) c at ≡ true
few_children cells (Term-F.Mod a b) c at e h = (and_parts (few_stand (stands cells a ∷ stands cells b ∷ []) c at) (quotient_stands cells c at) h).0
few_children cells (Term-F.Tuple ts) c at e h = cc
few_children cells x c at e h = h

pub counted : (x : Term-F Term) (n : ℕ) → arity (form_of x) ≡ Some n → length (children x) ≡ n
counted (Term-F.Tuple ts) n e = cc
counted x n e = cc

-- the head of a node with another child
one_head : (node : Term → Term-F Term) (f : ℕ) (n : ℤ) → ((a : Term) → HasHead (node a) f n (a ∷ [])) → (k : ℕ) (new a u : Term) → slice_get (a ∷ []) k ≡ Some u → HasHead (node new) f n (set (a ∷ []) k new)
one_head node f n h zero new a u e = h new
one_head node f n h (suc k) new a u e = cc

two_head : (node : Term → Term → Term-F Term) (f : ℕ) → ((a b : Term) → HasHead (node a b) f (pos 0) (a ∷ b ∷ [])) → (k : ℕ) (new a b u : Term) → slice_get (a ∷ b ∷ []) k ≡ Some u
    → HasHead (first_of_two node k new a b) f (pos 0) (set (a ∷ b ∷ []) k new)
two_head node f h zero new a b u e = h new b
two_head node f h (suc zero) new a b u e = h a new
two_head node f h (suc (suc k)) new a b u e = cc

three_head : (k : ℕ) (new i j a u : Term) → slice_get (i ∷ j ∷ a ∷ []) k ≡ Some u → HasHead (with_child k new (Term-F.Part i j a)) 15 (pos 0) (set (i ∷ j ∷ a ∷ []) k new)
three_head zero new i j a u e = record { form_is = refl; own_is = refl; children_are = refl }
three_head (suc zero) new i j a u e = record { form_is = refl; own_is = refl; children_are = refl }
three_head (suc (suc zero)) new i j a u e = record { form_is = refl; own_is = refl; children_are = refl }
three_head (suc (suc (suc k))) new i j a u e = cc

pub exchanged_head : (x : Term-F Term) (k : ℕ) (new u : Term) → (form x == 16) ≡ false → slice_get (children x) k ≡ Some u → HasHead (with_child k new x) (form x) (own x) (set (children x) k new)
exchanged_head (Term-F.Len a) k new u h e = one_head (λ x. Term-F.Len x) 10 (pos 0) (λ x. record { form_is = refl; own_is = refl; children_are = refl }) k new a u e
exchanged_head (Term-F.Single a) k new u h e = one_head (λ x. Term-F.Single x) 12 (pos 0) (λ x. record { form_is = refl; own_is = refl; children_are = refl }) k new a u e
exchanged_head (Term-F.Reverse a) k new u h e = one_head (λ x. Term-F.Reverse x) 14 (pos 0) (λ x. record { form_is = refl; own_is = refl; children_are = refl }) k new a u e
exchanged_head (Term-F.Not a) k new u h e = one_head (λ x. Term-F.Not x) 21 (pos 0) (λ x. record { form_is = refl; own_is = refl; children_are = refl }) k new a u e
exchanged_head (Term-F.Proj n a) k new u h e = one_head (λ x. Term-F.Proj n x) 17 (pos n) (λ x. record { form_is = refl; own_is = refl; children_are = refl }) k new a u e
exchanged_head (Term-F.Initial n a) k new u h e = one_head (λ x. Term-F.Initial n x) 25 (pos n) (λ x. record { form_is = refl; own_is = refl; children_are = refl }) k new a u e
exchanged_head (Term-F.Add a b) k new u h e = two_head (λ x y. Term-F.Add x y) 5 (λ x y. record { form_is = refl; own_is = refl; children_are = refl }) k new a b u e
exchanged_head (Term-F.Sub a b) k new u h e = two_head (λ x y. Term-F.Sub x y) 6 (λ x y. record { form_is = refl; own_is = refl; children_are = refl }) k new a b u e
exchanged_head (Term-F.Mul a b) k new u h e = two_head (λ x y. Term-F.Mul x y) 7 (λ x y. record { form_is = refl; own_is = refl; children_are = refl }) k new a b u e
exchanged_head (Term-F.Div a b) k new u h e = two_head (λ x y. Term-F.Div x y) 8 (λ x y. record { form_is = refl; own_is = refl; children_are = refl }) k new a b u e
exchanged_head (Term-F.Mod a b) k new u h e = two_head (λ x y. Term-F.Mod x y) 9 (λ x y. record { form_is = refl; own_is = refl; children_are = refl }) k new a b u e
exchanged_head (Term-F.Cat a b) k new u h e = two_head (λ x y. Term-F.Cat x y) 13 (λ x y. record { form_is = refl; own_is = refl; children_are = refl }) k new a b u e
exchanged_head (Term-F.Eq a b) k new u h e = two_head (λ x y. Term-F.Eq x y) 18 (λ x y. record { form_is = refl; own_is = refl; children_are = refl }) k new a b u e
exchanged_head (Term-F.Less a b) k new u h e = two_head (λ x y. Term-F.Less x y) 19 (λ x y. record { form_is = refl; own_is = refl; children_are = refl }) k new a b u e
exchanged_head (Term-F.LessEq a b) k new u h e = two_head (λ x y. Term-F.LessEq x y) 20 (λ x y. record { form_is = refl; own_is = refl; children_are = refl }) k new a b u e
exchanged_head (Term-F.And a b) k new u h e = two_head (λ x y. Term-F.And x y) 22 (λ x y. record { form_is = refl; own_is = refl; children_are = refl }) k new a b u e
exchanged_head (Term-F.Or a b) k new u h e = two_head (λ x y. Term-F.Or x y) 23 (λ x y. record { form_is = refl; own_is = refl; children_are = refl }) k new a b u e
exchanged_head (Term-F.Implies a b) k new u h e = two_head (λ x y. Term-F.Implies x y) 24 (λ x y. record { form_is = refl; own_is = refl; children_are = refl }) k new a b u e
exchanged_head (Term-F.Part i j a) k new u h e = three_head k new i j a u e
exchanged_head (Term-F.Tuple ts) k new u h e = cc
exchanged_head x k new u h e = cc

module _ (cells : List Cell) where
  below_part : (t : Term) (p limit : ℕ) → stands_below (stands cells t) p limit ≡ true → stands cells t p ≡ true
  below_part t p limit h = (and_parts _ (stands cells t p) h).1

  -- a child stands where the cell says
  child_stands : (ts : List Term) (c : Cell) (at k : ℕ) (u : Term) → few_stand (map (stands cells) ts) c at ≡ true → slice_get ts k ≡ Some u → stands cells u (place_of c k) ≡ true
  child_stands [] c at k u h e = cc
  child_stands (s ∷ []) c at zero u h e =
      let same : s ≡ u = cc in
      ap (λ v. stands cells v c.a) (sym same) ∙ below_part s c.a at h
  child_stands (s ∷ []) c at (suc k) u h e = cc
  child_stands (s ∷ t ∷ []) c at zero u h e =
      let same : s ≡ u = cc in
      ap (λ v. stands cells v c.a) (sym same) ∙ below_part s c.a at (and_parts (stands_below (stands cells s) c.a at) (stands_below (stands cells t) c.b at) h).0
  child_stands (s ∷ t ∷ []) c at (suc zero) u h e =
      let same : t ≡ u = cc in
      ap (λ v. stands cells v c.b) (sym same) ∙ below_part t c.b at (and_parts (stands_below (stands cells s) c.a at) (stands_below (stands cells t) c.b at) h).1
  child_stands (s ∷ t ∷ []) c at (suc (suc k)) u h e = cc
  child_stands (s ∷ t ∷ r ∷ []) c at k u h e = three k e
    where
      three : (k : ℕ) → slice_get (s ∷ t ∷ r ∷ []) k ≡ Some u → stands cells u (place_of c k) ≡ true
      three zero e =
          let same : s ≡ u = cc in
          let p = and_parts (stands_below (stands cells s) c.a at && stands_below (stands cells t) c.b at) (stands_below (stands cells r) c.c at) h in
          ap (λ v. stands cells v c.a) (sym same) ∙ below_part s c.a at (and_parts (stands_below (stands cells s) c.a at) (stands_below (stands cells t) c.b at) p.0).0
      three (suc zero) e =
          let same : t ≡ u = cc in
          let p = and_parts (stands_below (stands cells s) c.a at && stands_below (stands cells t) c.b at) (stands_below (stands cells r) c.c at) h in
          ap (λ v. stands cells v c.b) (sym same) ∙ below_part t c.b at (and_parts (stands_below (stands cells s) c.a at) (stands_below (stands cells t) c.b at) p.0).1
      three (suc (suc zero)) e =
          let same : r ≡ u = cc in
          ap (λ v. stands cells v c.c) (sym same) ∙ below_part r c.c at (and_parts (stands_below (stands cells s) c.a at && stands_below (stands cells t) c.b at) (stands_below (stands cells r) c.c at) h).1
      three (suc (suc (suc k))) e = cc
  child_stands (s ∷ t ∷ r ∷ q ∷ qs) c at k u h e = cc

  -- another child in its place, for a node at the next place
  pub few_exchanged : StandsBelowNext → (ts : List Term) (c : Cell) (at k : ℕ) (u new : Term) (p : ℕ) → few_stand (map (stands cells) ts) c at ≡ true → slice_get ts k ≡ Some u → stands cells new p ≡ true
      → few_stand (map (stands cells) (set ts k new)) (with_place c k p) (length cells) ≡ true
  few_exchanged law [] c at k u new p h e n = cc
  few_exchanged law (s ∷ []) c at zero u new p h e n = law cells new p n
  few_exchanged law (s ∷ []) c at (suc k) u new p h e n = cc
  few_exchanged law (s ∷ t ∷ []) c at zero u new p h e n =
      and_from _ _ (law cells new p n) (law cells t c.b (child_stands (s ∷ t ∷ []) c at 1 t h refl))
  few_exchanged law (s ∷ t ∷ []) c at (suc zero) u new p h e n =
      and_from _ _ (law cells s c.a (child_stands (s ∷ t ∷ []) c at 0 s h refl)) (law cells new p n)
  few_exchanged law (s ∷ t ∷ []) c at (suc (suc k)) u new p h e n = cc
  few_exchanged law (s ∷ t ∷ r ∷ []) c at k u new p h e n = three k e
    where
      first : stands_below (stands cells s) c.a (length cells) ≡ true
      first = law cells s c.a (child_stands (s ∷ t ∷ r ∷ []) c at 0 s h refl)

      second : stands_below (stands cells t) c.b (length cells) ≡ true
      second = law cells t c.b (child_stands (s ∷ t ∷ r ∷ []) c at 1 t h refl)

      third : stands_below (stands cells r) c.c (length cells) ≡ true
      third = law cells r c.c (child_stands (s ∷ t ∷ r ∷ []) c at 2 r h refl)

      three : (k : ℕ) → slice_get (s ∷ t ∷ r ∷ []) k ≡ Some u → few_stand (map (stands cells) (set (s ∷ t ∷ r ∷ []) k new)) (with_place c k p) (length cells) ≡ true
      three zero e = and_from _ _ (and_from _ _ (law cells new p n) second) third
      three (suc zero) e = and_from _ _ (and_from _ _ first (law cells new p n)) third
      three (suc (suc zero)) e = and_from _ _ (and_from _ _ first second) (law cells new p n)
      three (suc (suc (suc k))) e = cc
  few_exchanged law (s ∷ t ∷ r ∷ q ∷ qs) c at k u new p h e n = cc

  -- the child of a number, where there are more than it says
  pub child_at : (ts : List Term) (c : Cell) (at k : ℕ) → few_stand (map (stands cells) ts) c at ≡ true → k < length ts → PartAt cells ts k (Some (place_of c k))
  child_at ts c at k h l =
      let o = part_there ts k l in
      (o.0, o.1, child_stands ts c at k o.0 h o.1)
    where
      part_there : (ts : List Term) (k : ℕ) → k < length ts → (u : Term) × (slice_get ts k ≡ Some u)
      part_there [] k l = absurd (omega (arith, l))
      part_there (t ∷ ts) zero l = (t, refl)
      part_there (t ∷ ts) (suc k) l = part_there ts k (omega (arith, l))

pub place_heads : (c : Cell) (k p : ℕ) → ((with_place c k p).form ≡ c.form) × ((with_place c k p).own ≡ c.own)
place_heads c zero p = (refl, refl)
place_heads c (suc zero) p = (refl, refl)
place_heads c (suc (suc k)) p = (refl, refl)

-- a remainder, with its children where its cell says
pub mod_is : (cells : List Cell) (x : Term-F Term) (c : Cell) (at : ℕ) → (form x == 9) ≡ true → few_stand (map (stands cells) (children x)) c at ≡ true
    → (a : Term) × (b : Term) × (x ≡ Term-F.Mod a b) × (stands cells a c.a ≡ true) × (stands cells b c.b ≡ true)
mod_is cells (Term-F.Mod a b) c at e h =
    let q = and_parts (stands_below (stands cells a) c.a at) (stands_below (stands cells b) c.b at) h in
    (a, b, refl, below_part cells a c.a at q.0, below_part cells b c.b at q.1)
mod_is cells x c at e h = cc

-- the parts of a tuple, and the tuple with another part
pub tuple_parts : (cells : List Cell) (x : Term-F Term) (c : Cell) (at : ℕ) → (form x == 16) ≡ true → children_at cells x c at ≡ true → parts_stand cells (map (stands cells) (children x)) c.a at ≡ true
tuple_parts cells (Term-F.Tuple ts) c at e h = h
tuple_parts cells x c at e h = cc

pub tuple_exchanged : (x : Term-F Term) (k : ℕ) (new : Term) → (form x == 16) ≡ true → with_child k new x ≡ Term-F.Tuple (set (children x) k new)
tuple_exchanged (Term-F.Tuple ts) k new e = refl
tuple_exchanged x k new e = cc

-- the cell of the node with another child, where the node is no tuple
pub record IsExchanged (cells : List Cell) (x : Term-F Term) (old c : Cell) : Type 0 where
  pub form_kept : form x ≡ old.form
  pub form_is : c.form ≡ form x
  pub own_is : c.own ≡ own x
  pub children_are : few_stand (map (stands cells) (children x)) c (length cells) ≡ true

pub exchanged_cell : StandsBelowNext → (cells : List Cell) (t u new : Term) (c d : Cell) (p k q : ℕ) → IsNodeAt cells t c p → (form (out-Term t) == 16) ≡ false → slice_get (children (out-Term t)) k ≡ Some u
    → stands cells new q ≡ true → d ≡ with_place c k q → IsExchanged cells (with_child k new (out-Term t)) c d
exchanged_cell law cells t u new c d p k q n other e s same =
    let head = exchanged_head (out-Term t) k new u other e in
    let heads = place_heads c k q in
    let kids = few_exchanged cells law (children (out-Term t)) c p k u new q (few_children cells (out-Term t) c p other n.children_are) e s in
    record {
      form_kept = head.form_is ∙ n.form_is;
      form_is = ap (λ (d : Cell). d.form) same ∙ heads.0 ∙ sym n.form_is ∙ sym head.form_is;
      own_is = ap (λ (d : Cell). d.own) same ∙ heads.1 ∙ sym n.own_is ∙ sym head.own_is;
      children_are = (λ i. few_stand (map (stands cells) (head.children_are i)) (same i) (length cells)) ∙ kids;
    }
