-- What it says that a term stands at a place, by the heads of terms.
use Rattle.std.proofs.Common.{◌≡◌, ◌∙◌, sym, ap, refl, subst, ℕ, ◌==◌, Bool, true, ◌&&◌, List, map, Option, Some, None, slice_get}
use Rattle.std.specs.Ordering.{int_eq}
use Rattle.std.proofs.lemmas.Bool.{and_parts, and_from, eqb-true, eq-eqb, false≢true}
use Rattle.std.proofs.lemmas.Bool.Decides.{Decides-int_eq}
use Rattle.math_terms.specs.declared.term.Term.{Term}
use Rattle.math_terms.specs.declared.term.Term.TheOpen.{Term-F}
use Rattle.math_terms.specs.declared.term.Term.TheViews.{out-Term}
use Rattle.math_terms.specs.declared.term.Term.TheFolds.{map-Term, fold_out-Term}
use Rattle.math_terms.specs.Heads.{form, own, children}
use Rattle.term_cells.specs.declared.cell.Cell.{Cell}
use Rattle.term_cells.specs.Standing.{with_cell, children_stand, node_stands, stands}
use Rattle.term_cells.proofs.Forms.{mapped_heads, form_stands, children_stand_is}

-- the cell has the head of the term, and the term's children stand where it says
pub record IsNode (cells : List Cell) (t : Term) (c : Cell) (at : ℕ) : Type 0 where
  pub form_is : c.form ≡ form (out-Term t)
  pub own_is : c.own ≡ own (out-Term t)
  pub children_are : form_stands cells c.form (map (stands cells) (children (out-Term t))) c at ≡ true

-- the test of a cell
node_test : List Cell → Term → ℕ → Cell → Bool
node_test cells t at c =
    (c.form == form (out-Term t)) && int_eq c.own (own (out-Term t)) && form_stands cells (form (out-Term t)) (map (stands cells) (children (out-Term t))) c at

stands_is : (cells : List Cell) (t : Term) (at : ℕ) → stands cells t at ≡ with_cell (slice_get cells at) (node_test cells t at)
unfolding node_test
stands_is cells t at =
    let x : Term-F Term = out-Term t in
    let y : Term-F (ℕ → Bool) = map-Term Term (ℕ → Bool) (stands cells) x in
    let heads = mapped_heads (stands cells) x in
    let all : (c : Cell) → children_stand cells y c at ≡ form_stands cells (form x) (map (stands cells) (children x)) c at =
    λ c. children_stand_is cells y c at ∙ (λ i. form_stands cells (heads.0 i) (heads.2 i) c at) in
    ap (λ (f : ℕ → Bool). f at) (fold_out-Term (ℕ → Bool) (node_stands cells) t)
    ∙ (λ i. with_cell (slice_get cells at) (λ c. (c.form == heads.0 i) && int_eq c.own (heads.1 i) && all c i))

test_tells : (cells : List Cell) (t : Term) (c : Cell) (at : ℕ) → node_test cells t at c ≡ true → IsNode cells t c at
unfolding node_test
test_tells cells t c at h =
    let x : Term-F Term = out-Term t in
    let kids = form_stands cells (form x) (map (stands cells) (children x)) c at in
    let p = and_parts ((c.form == form x) && int_eq c.own (own x)) kids h in
    let q = and_parts (c.form == form x) (int_eq c.own (own x)) p.0 in
    let e = eqb-true c.form (form x) q.0 in
    record {
      form_is = e;
      own_is = (Decides-int_eq c.own (own x)).0 q.1;
      children_are = subst (λ k. form_stands cells k (map (stands cells) (children x)) c at ≡ true) (sym e) p.1;
    }

test_from : (cells : List Cell) (t : Term) (c : Cell) (at : ℕ) → IsNode cells t c at → node_test cells t at c ≡ true
unfolding node_test
test_from cells t c at n =
    let x : Term-F Term = out-Term t in
    let kids = form_stands cells (form x) (map (stands cells) (children x)) c at in
    and_from ((c.form == form x) && int_eq c.own (own x)) kids
    (and_from (c.form == form x) (int_eq c.own (own x)) (eq-eqb c.form (form x) n.form_is) ((Decides-int_eq c.own (own x)).1 n.own_is))
    (subst (λ k. form_stands cells k (map (stands cells) (children x)) c at ≡ true) n.form_is n.children_are)

-- of a term that stands at the place of a cell
pub opens : (cells : List Cell) (t : Term) (at : ℕ) (c : Cell) → slice_get cells at ≡ Some c → stands cells t at ≡ true → IsNode cells t c at
opens cells t at c e h = test_tells cells t c at (ap (λ o. with_cell o (node_test cells t at)) (sym e) ∙ sym (stands_is cells t at) ∙ h)

pub closes : (cells : List Cell) (t : Term) (at : ℕ) (c : Cell) → slice_get cells at ≡ Some c → IsNode cells t c at → stands cells t at ≡ true
closes cells t at c e n = stands_is cells t at ∙ ap (λ o. with_cell o (node_test cells t at)) e ∙ test_from cells t c at n

-- where a term stands, there is a cell
there : (o : Option Cell) (test : Cell → Bool) → with_cell o test ≡ true → (c : Cell) × (o ≡ Some c)
there None test h = absurd (false≢true h)
there (Some c) test h = (c, refl)

pub cell_of : (cells : List Cell) (t : Term) (at : ℕ) → stands cells t at ≡ true → (c : Cell) × (slice_get cells at ≡ Some c)
cell_of cells t at h = there (slice_get cells at) (node_test cells t at) (sym (stands_is cells t at) ∙ h)

pub not_there : (cells : List Cell) (t : Term) (at : ℕ) → slice_get cells at ≡ None → stands cells t at ≡ true → ⊥
not_there cells t at e h =
    let p = cell_of cells t at h in
    let q = p.1 in
    cc
