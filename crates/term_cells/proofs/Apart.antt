-- The tests of children, taken apart and put together.
use Rattle.std.proofs.Common.{◌≡◌, ◌∙◌, sym, ap, refl, ℕ, ◌==◌, ◌<◌, ltb, pos, Bool, true, false, ◌&&◌, List, [], ◌∷◌, Option, Some, None, slice_get}
use Rattle.std.specs.Ordering.{int_eq}
use Rattle.std.proofs.lemmas.Bool.{and_parts, and_from, eqb-true, eqb-false, eq-eqb, ltb-true, lt-ltb, false≢true}
use Rattle.std.proofs.lemmas.Bool.Decides.{Decides-int_eq}
use Rattle.term_cells.specs.declared.cell.Cell.{Cell}
use Rattle.term_cells.specs.Standing.{with_cell, stands_below, parts_stand, quotient_stands}

-- what a test of two numbers tells
pub holds : (k n : ℕ) → true ≡ (k == n) → k ≡ n
holds k n h = eqb-true k n (sym h)

pub fails : (k n : ℕ) → false ≡ (k == n) → k ≡ n → ⊥
fails k n h = eqb-false k n (sym h)

-- where a test of a cell passes, there is a cell
pub there : (o : Option Cell) (test : Cell → Bool) → with_cell o test ≡ true → (c : Cell) × (o ≡ Some c) × (test c ≡ true)
there None test h = absurd (false≢true h)
there (Some c) test h = (c, refl, h)

pub there_from : (o : Option Cell) (test : Cell → Bool) (c : Cell) → o ≡ Some c → test c ≡ true → with_cell o test ≡ true
there_from o test c e h = ap (λ p. with_cell p test) e ∙ h

pub below_parts : (p : ℕ → Bool) (at node : ℕ) → stands_below p at node ≡ true → (at < node) × (p at ≡ true)
below_parts p at node h =
    let q = and_parts (ltb at node) (p at) h in
    (ltb-true at node q.0, q.1)

pub below_from : (p : ℕ → Bool) (at node : ℕ) → at < node → p at ≡ true → stands_below p at node ≡ true
below_from p at node l h = and_from (ltb at node) (p at) (lt-ltb at node l) h

-- the end of a list of parts
pub record IsEnd (cells : List Cell) (at node : ℕ) : Type 0 where
  pub cell : Cell
  pub below : at < node
  pub cell_is : slice_get cells at ≡ Some cell
  pub form_is : cell.form ≡ 26

pub end_parts : (cells : List Cell) (at node : ℕ) → parts_stand cells [] at node ≡ true → IsEnd cells at node
end_parts cells at node h =
    let test : Cell → Bool = λ c. c.form == 26 in
    let q = and_parts (ltb at node) (with_cell (slice_get cells at) test) h in
    let c = there (slice_get cells at) test q.1 in
    record { cell = c.0; below = ltb-true at node q.0; cell_is = c.1; form_is = eqb-true c.0.form 26 c.2 }

pub end_from : (cells : List Cell) (at node : ℕ) → IsEnd cells at node → parts_stand cells [] at node ≡ true
end_from cells at node e =
    let test : Cell → Bool = λ c. c.form == 26 in
    and_from (ltb at node) (with_cell (slice_get cells at) test)
    (lt-ltb at node e.below)
    (there_from (slice_get cells at) test e.cell e.cell_is (eq-eqb e.cell.form 26 e.form_is))

-- a part before others
pub record IsLink (cells : List Cell) (p : ℕ → Bool) (ps : List (ℕ → Bool)) (at node : ℕ) : Type 0 where
  pub cell : Cell
  pub below : at < node
  pub cell_is : slice_get cells at ≡ Some cell
  pub form_is : cell.form ≡ 27
  pub part_below : cell.a < at
  pub part_is : p cell.a ≡ true
  pub rest_is : parts_stand cells ps cell.b at ≡ true

link_test : List Cell → (ℕ → Bool) → List (ℕ → Bool) → ℕ → Cell → Bool
link_test cells p ps at c = (c.form == 27) && stands_below p c.a at && parts_stand cells ps c.b at

pub link_parts : (cells : List Cell) (p : ℕ → Bool) (ps : List (ℕ → Bool)) (at node : ℕ) → parts_stand cells (p ∷ ps) at node ≡ true → IsLink cells p ps at node
unfolding link_test
link_parts cells p ps at node h =
    let q = and_parts (ltb at node) (with_cell (slice_get cells at) (link_test cells p ps at)) h in
    let c = there (slice_get cells at) (link_test cells p ps at) q.1 in
    let r = and_parts ((c.0.form == 27) && stands_below p c.0.a at) (parts_stand cells ps c.0.b at) c.2 in
    let s = and_parts (c.0.form == 27) (stands_below p c.0.a at) r.0 in
    let b = below_parts p c.0.a at s.1 in
    record {
      cell = c.0;
      below = ltb-true at node q.0;
      cell_is = c.1;
      form_is = eqb-true c.0.form 27 s.0;
      part_below = b.0;
      part_is = b.1;
      rest_is = r.1;
    }

pub link_from : (cells : List Cell) (p : ℕ → Bool) (ps : List (ℕ → Bool)) (at node : ℕ) → IsLink cells p ps at node → parts_stand cells (p ∷ ps) at node ≡ true
unfolding link_test
link_from cells p ps at node l =
    and_from (ltb at node) (with_cell (slice_get cells at) (link_test cells p ps at))
    (lt-ltb at node l.below)
    (there_from (slice_get cells at) (link_test cells p ps at) l.cell l.cell_is
    (and_from ((l.cell.form == 27) && stands_below p l.cell.a at) (parts_stand cells ps l.cell.b at)
    (and_from (l.cell.form == 27) (stands_below p l.cell.a at) (eq-eqb l.cell.form 27 l.form_is) (below_from p l.cell.a at l.part_below l.part_is))
    l.rest_is))

-- the quotient beside a remainder
pub record IsQuotient (cells : List Cell) (c : Cell) (node : ℕ) : Type 0 where
  pub cell : Cell
  pub below : c.c < node
  pub cell_is : slice_get cells c.c ≡ Some cell
  pub form_is : cell.form ≡ 8
  pub own_is : cell.own ≡ pos 0
  pub a_is : cell.a ≡ c.a
  pub b_is : cell.b ≡ c.b
  pub a_below : c.a < c.c
  pub b_below : c.b < c.c

quotient_test : Cell → Cell → Bool
quotient_test c d = (d.form == 8) && int_eq d.own (pos 0) && (d.a == c.a) && (d.b == c.b) && ltb c.a c.c && ltb c.b c.c

pub quotient_parts : (cells : List Cell) (c : Cell) (node : ℕ) → quotient_stands cells c node ≡ true → IsQuotient cells c node
unfolding quotient_test
quotient_parts cells c node h =
    let p = and_parts (ltb c.c node) (with_cell (slice_get cells c.c) (quotient_test c)) h in
    let d = there (slice_get cells c.c) (quotient_test c) p.1 in
    let one : Bool = d.0.form == 8 in
    let two : Bool = one && int_eq d.0.own (pos 0) in
    let three : Bool = two && (d.0.a == c.a) in
    let four : Bool = three && (d.0.b == c.b) in
    let five : Bool = four && ltb c.a c.c in
    let q = and_parts five (ltb c.b c.c) d.2 in
    let r = and_parts four (ltb c.a c.c) q.0 in
    let s = and_parts three (d.0.b == c.b) r.0 in
    let t = and_parts two (d.0.a == c.a) s.0 in
    let u = and_parts one (int_eq d.0.own (pos 0)) t.0 in
    record {
      cell = d.0;
      below = ltb-true c.c node p.0;
      cell_is = d.1;
      form_is = eqb-true d.0.form 8 u.0;
      own_is = (Decides-int_eq d.0.own (pos 0)).0 u.1;
      a_is = eqb-true d.0.a c.a t.1;
      b_is = eqb-true d.0.b c.b s.1;
      a_below = ltb-true c.a c.c r.1;
      b_below = ltb-true c.b c.c q.1;
    }

pub quotient_from : (cells : List Cell) (c : Cell) (node : ℕ) → IsQuotient cells c node → quotient_stands cells c node ≡ true
unfolding quotient_test
quotient_from cells c node q =
    let d = q.cell in
    let one : Bool = d.form == 8 in
    let two : Bool = one && int_eq d.own (pos 0) in
    let three : Bool = two && (d.a == c.a) in
    let four : Bool = three && (d.b == c.b) in
    let five : Bool = four && ltb c.a c.c in
    let test = and_from five (ltb c.b c.c)
    (and_from four (ltb c.a c.c)
    (and_from three (d.b == c.b)
    (and_from two (d.a == c.a)
    (and_from one (int_eq d.own (pos 0)) (eq-eqb d.form 8 q.form_is) ((Decides-int_eq d.own (pos 0)).1 q.own_is))
    (eq-eqb d.a c.a q.a_is))
    (eq-eqb d.b c.b q.b_is))
    (lt-ltb c.a c.c q.a_below))
    (lt-ltb c.b c.c q.b_below) in
    and_from (ltb c.c node) (with_cell (slice_get cells c.c) (quotient_test c)) (lt-ltb c.c node q.below) (there_from (slice_get cells c.c) (quotient_test c) d q.cell_is test)
