-- The node of a cell, form by form.
use Rattle.std.proofs.Common.{◌≡◌, ◌∙◌, sym, ap, refl, ℕ, ◌==◌, ◌<◌, pos, unsigned_abs, Bool, true, false, not, ◌&&◌, ◌||◌, List, [], ◌∷◌, map, length, Some, slice_get}
use Rattle.std.specs.Ordering.{int_eq}
use Rattle.std.proofs.lemmas.Bool.{and_parts, and_from}
use Rattle.std.proofs.lemmas.List.{nil_from_length}
use Rattle.math_terms.specs.declared.term.Term.{Term}
use Rattle.math_terms.specs.declared.term.Term.TheOpen.{Term-F}
use Rattle.math_terms.specs.declared.term.Term.TheViews.{roll-Term, out-Term, out-roll-Term}
use Rattle.math_terms.specs.declared.term.Term.TheFolds.{map-Term}
use Rattle.math_terms.specs.Heads.{children, form, own}
use Rattle.term_cells.specs.declared.cell.Cell.{Cell}
use Rattle.term_cells.specs.working.Arity.{arity}
use Rattle.term_cells.specs.Growing.{HasHead}
use Rattle.term_cells.specs.Laws.{IsNodeAt, StandsOne, StandsTwo, LeavesOpen, children_at, is_plain_form}
use Rattle.term_cells.specs.Standing.{few_stand, quotient_stands, stands, stands_below}
use Rattle.term_cells.proofs.Apart.{below_parts, below_from, quotient_parts}
use Rattle.term_cells.proofs.Forms.{form_stands, children_stand_is, mapped_heads, children_counted, remade, node_remade, same_nodes}
use Rattle.term_cells.proofs.Lasting.{stands_inside}
use Rattle.term_cells.proofs.Openings.{opens, closes, cell_of}
use Rattle.term_cells.proofs.Telling.{few_of}

pub below_next : (cells : List Cell) (t : Term) (at : ℕ) → stands cells t at ≡ true → stands_below (stands cells t) at (length cells) ≡ true
below_next cells t at h = below_from (stands cells t) at (length cells) (stands_inside cells t at h) h

children_at_is : (cells : List Cell) (x : Term-F Term) (c : Cell) (at : ℕ) → children_at cells x c at ≡ form_stands cells (form x) (map (stands cells) (children x)) c at
children_at_is cells x c at =
    let heads = mapped_heads (stands cells) x in
    children_stand_is cells (map-Term Term (ℕ → Bool) (stands cells) x) c at
    ∙ (λ i. form_stands cells (heads.0 i) (heads.2 i) c at)

pub standing_opens : (cells : List Cell) (t : Term) (at : ℕ) → stands cells t at ≡ true → (c : Cell) × (slice_get cells at ≡ Some c) × IsNodeAt cells t c at
standing_opens cells t at h =
    let c = cell_of cells t at h in
    let n = opens cells t at c.0 c.1 h in
    let kids : children_at cells (out-Term t) c.0 at ≡ true =
    children_at_is cells (out-Term t) c.0 at
    ∙ ap (λ k. form_stands cells k (map (stands cells) (children (out-Term t))) c.0 at) (sym n.form_is)
    ∙ n.children_are in
    (c.0, c.1, record { form_is = sym n.form_is; own_is = sym n.own_is; children_are = kids })

-- a node of a plain form has no number of its own
plain_own : {A : Type 0} (x : Term-F A) → is_plain_form (form x) ≡ true → own x ≡ pos 0
plain_own (Term-F.Num n) h = cc
plain_own (Term-F.Truth b) h = cc
plain_own (Term-F.Var k) h = cc
plain_own (Term-F.Proj k a) h = cc
plain_own (Term-F.Initial k a) h = cc
plain_own x h = refl

plain_tests : (k : ℕ) → is_plain_form k ≡ true → (b : Bool) → (k == 16) ≡ b → (k == 16) ≡ false
plain_tests k h false e = e
plain_tests k h true e =
    let or_true : not (true || (k == 0) || (k == 1) || (k == 4) || (k == 17) || (k == 25)) ≡ true = ap (λ b. not (b || (k == 0) || (k == 1) || (k == 4) || (k == 17) || (k == 25))) (sym e) ∙ h in
    cc

no_tuple : (k : ℕ) → is_plain_form k ≡ true → (k == 16) ≡ false
no_tuple k h = plain_tests k h (k == 16) refl

module _ (cells : List Cell) (t : Term) (at : ℕ) (c : Cell) (k : ℕ) (at_is : slice_get cells at ≡ Some c) (form_is : c.form ≡ k) (standing : stands cells t at ≡ true) where
  pub its_form : form (out-Term t) ≡ k
  its_form = sym (opens cells t at c at_is standing).form_is ∙ form_is

  pub its_own : own (out-Term t) ≡ c.own
  its_own = sym (opens cells t at c at_is standing).own_is

  pub its_few : (k == 16) ≡ false → few_stand (map (stands cells) (children (out-Term t))) c at ≡ true
  its_few e =
      few_of cells c.form (map (stands cells) (children (out-Term t))) c at (ap (λ m. m == 16) form_is ∙ e)
      (opens cells t at c at_is standing).children_are

  pub its_count : (k == 16) ≡ false → length (children (out-Term t)) ≡ arity k
  its_count e = children_counted (out-Term t) (ap (λ m. m == 16) its_form ∙ e) ∙ ap arity its_form

one_from : (cells : List Cell) (t : Term) (node : Term → Term-F Term) (k : ℕ) → ((a : Term) → HasHead (node a) k (pos 0) (a ∷ [])) → (c : Cell) (at : ℕ) →
    form (out-Term t) ≡ k → own (out-Term t) ≡ pos 0 → (ts : List Term) → children (out-Term t) ≡ ts → length ts ≡ 1 → few_stand (map (stands cells) ts) c at ≡ true → StandsOne cells t node c at
one_from cells t node k heads c at f o [] e l h = cc
one_from cells t node k heads c at f o (a ∷ []) e l h =
    let p = below_parts (stands cells a) c.a at h in
    let n = heads a in
    record {
      child = a;
      term_is = same_nodes (out-Term t) (node a) (f ∙ sym n.form_is) (o ∙ sym n.own_is) (e ∙ sym n.children_are);
      below = p.0;
      child_is = p.1;
    }
one_from cells t node k heads c at f o (a ∷ b ∷ ts) e l h = cc

pub one_opens : (node : Term → Term-F Term) (k : ℕ) → ((a : Term) → HasHead (node a) k (pos 0) (a ∷ [])) → is_plain_form k ≡ true →
    (cells : List Cell) (t : Term) (at : ℕ) (c : Cell) → slice_get cells at ≡ Some c → c.form ≡ k → stands cells t at ≡ true → StandsOne cells t node c at
one_opens node k heads plain cells t at c e f h =
    let n = heads t in
    let other = no_tuple k plain in
    let one : arity k ≡ 1 = ap arity (sym n.form_is) ∙ sym (children_counted (node t) (ap (λ m. m == 16) n.form_is ∙ other)) ∙ ap length n.children_are in
    one_from cells t node k heads c at (its_form cells t at c k e f h)
    (plain_own (out-Term t) (ap is_plain_form (its_form cells t at c k e f h) ∙ plain))
    (children (out-Term t)) refl (its_count cells t at c k e f h other ∙ one) (its_few cells t at c k e f h other)

two_from : (cells : List Cell) (t : Term) (node : Term → Term → Term-F Term) (k : ℕ) → ((a b : Term) → HasHead (node a b) k (pos 0) (a ∷ b ∷ [])) → (c : Cell) (at : ℕ) →
    form (out-Term t) ≡ k → own (out-Term t) ≡ pos 0 → (ts : List Term) → children (out-Term t) ≡ ts → length ts ≡ 2 → few_stand (map (stands cells) ts) c at ≡ true → StandsTwo cells t node c at
two_from cells t node k heads c at f o [] e l h = cc
two_from cells t node k heads c at f o (a ∷ []) e l h = cc
two_from cells t node k heads c at f o (a ∷ b ∷ []) e l h =
    let q = and_parts (stands_below (stands cells a) c.a at) (stands_below (stands cells b) c.b at) h in
    let p = below_parts (stands cells a) c.a at q.0 in
    let r = below_parts (stands cells b) c.b at q.1 in
    let n = heads a b in
    record {
      left = a;
      right = b;
      term_is = same_nodes (out-Term t) (node a b) (f ∙ sym n.form_is) (o ∙ sym n.own_is) (e ∙ sym n.children_are);
      left_below = p.0;
      left_is = p.1;
      right_below = r.0;
      right_is = r.1;
    }
two_from cells t node k heads c at f o (a ∷ b ∷ d ∷ ts) e l h = cc

pub two_opens : (node : Term → Term → Term-F Term) (k : ℕ) → ((a b : Term) → HasHead (node a b) k (pos 0) (a ∷ b ∷ [])) → is_plain_form k ≡ true →
    (cells : List Cell) (t : Term) (at : ℕ) (c : Cell) → slice_get cells at ≡ Some c → c.form ≡ k → stands cells t at ≡ true → StandsTwo cells t node c at
two_opens node k heads plain cells t at c e f h =
    let n = heads t t in
    let other = no_tuple k plain in
    let two : arity k ≡ 2 = ap arity (sym n.form_is) ∙ sym (children_counted (node t t) (ap (λ m. m == 16) n.form_is ∙ other)) ∙ ap length n.children_are in
    two_from cells t node k heads c at (its_form cells t at c k e f h)
    (plain_own (out-Term t) (ap is_plain_form (its_form cells t at c k e f h) ∙ plain))
    (children (out-Term t)) refl (its_count cells t at c k e f h other ∙ two) (its_few cells t at c k e f h other)

-- a leaf is told by its form and its own number
pub leaf_is : (cells : List Cell) (t : Term) (at : ℕ) (c : Cell) (k : ℕ) → slice_get cells at ≡ Some c → c.form ≡ k → stands cells t at ≡ true → (k == 16) ≡ false → arity k ≡ 0 → (x : Term-F Term) →
    remade k c.own [] ≡ Some x → out-Term t ≡ x
leaf_is cells t at c k e f h other none x r =
    let count : length (children (out-Term t)) ≡ 0 = its_count cells t at c k e f h other ∙ none in
    let kids = nil_from_length (children (out-Term t)) count in
    let all : Some (out-Term t) ≡ Some x =
    sym (node_remade (out-Term t)) ∙ (λ i. remade (its_form cells t at c k e f h i) (its_own cells t at c k e f h i) (kids i)) ∙ r in
    cc

pub leaves_open : LeavesOpen
leaves_open = record {
  num = λ cells t at c e f h. leaf_is cells t at c 0 e f h refl refl (Term-F.Num c.own) refl;
  truth = λ cells t at c e f h. leaf_is cells t at c 1 e f h refl refl (Term-F.Truth (int_eq c.own (pos 1))) refl;
  var = λ cells t at c e f h. leaf_is cells t at c 4 e f h refl refl (Term-F.Var (unsigned_abs c.own)) refl;
}

-- the quotient beside a remainder
pub quotient_stands_there : (cells : List Cell) (t u : Term) (at : ℕ) (c : Cell) → slice_get cells at ≡ Some c → stands cells (roll-Term (Term-F.Mod t u)) at ≡ true →
    (c.c < at) × (stands cells (roll-Term (Term-F.Div t u)) c.c ≡ true)
quotient_stands_there cells t u at c e h =
    let n = opens cells (roll-Term (Term-F.Mod t u)) at c e h in
    let out = out-roll-Term (Term-F.Mod t u) in
    let nine : c.form ≡ 9 = n.form_is ∙ ap form out in
    let all : few_stand (map (stands cells) (t ∷ u ∷ [])) c at && quotient_stands cells c at ≡ true =
    (λ i. form_stands cells (sym nine i) (map (stands cells) (children (sym out i))) c at) ∙ n.children_are in
    let p = and_parts (few_stand (map (stands cells) (t ∷ u ∷ [])) c at) (quotient_stands cells c at) all in
    let q = quotient_parts cells c at p.1 in
    let kids = and_parts (stands_below (stands cells t) c.a at) (stands_below (stands cells u) c.b at) p.0 in
    let first = below_parts (stands cells t) c.a at kids.0 in
    let second = below_parts (stands cells u) c.b at kids.1 in
    let quotient = out-roll-Term (Term-F.Div t u) in
    let d = q.cell in
    let below : few_stand (map (stands cells) (t ∷ u ∷ [])) d c.c ≡ true =
    and_from (stands_below (stands cells t) d.a c.c) (stands_below (stands cells u) d.b c.c)
    (ap (λ p. stands_below (stands cells t) p c.c) q.a_is ∙ below_from (stands cells t) c.a c.c q.a_below first.1)
    (ap (λ p. stands_below (stands cells u) p c.c) q.b_is ∙ below_from (stands cells u) c.b c.c q.b_below second.1) in (
      q.below,
      closes cells (roll-Term (Term-F.Div t u)) c.c d q.cell_is (record {
        form_is = q.form_is ∙ ap form (sym quotient);
        own_is = q.own_is ∙ ap own (sym quotient);
        children_are = (λ i. form_stands cells (q.form_is i) (map (stands cells) (children (quotient i))) d c.c) ∙ below;
      }),
    )
