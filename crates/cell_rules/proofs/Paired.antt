-- Two lists of parts side by side.
use Rattle.std.proofs.Common.{◌≡◌, ◌∙◌, sym, ap, subst, ℕ, ◌<◌, ◌==◌, true, false, List, [], length, map, Some, None, slice_get, inl, inr, arith}
use Rattle.math_terms.specs.declared.term.Term.{Term}
use Rattle.math_terms.specs.declared.term.Term.TheOpen.{Term-F}
use Rattle.math_terms.specs.declared.term.Term.TheViews.{out-Term, roll-Term, roll-out-Term, out-roll-Term}
use Rattle.math_terms.specs.Heads.{children}
use Rattle.math_terms.specs.Terms.{nodes}
use Rattle.term_cells.specs.declared.cell.Cell.{Cell}
use Rattle.term_cells.specs.Growing.{Grows, Store}
use Rattle.term_cells.specs.Laws.{PartsLast, PartsOpen}
use Rattle.term_cells.specs.Standing.{parts_stand, stands}
use Rattle.str_theory.specs.Forms.{and, eq, eq_form, tuple, tuple_form, when_eq, when_tuple}
use Rattle.str_theory.specs.Rules.{Given, equal_onto, equal_parts, gives}
use Rattle.cell_rules.specs.Pairing.{HeadsAre, PairIs}
use Rattle.cell_rules.specs.declared.pairs.Heads.{Heads}
use Rattle.cell_rules.specs.declared.pairs.Pair.TheVariants as pair
use Rattle.cell_rules.proofs.Costs.{child_cost, more_nodes}
use Rattle.cell_rules.proofs.Linking.{linked, no_parts}

pub list_kept : PartsLast → (old new : Store) (n : ℕ) → Grows old new n → (ts : List Term) (at m : ℕ) → parts_stand old.0 (map (stands old.0) ts) at m ≡ true → parts_stand new.0 (map (stands new.0) ts) at m ≡ true
list_kept law old new n g ts at m h = subst (λ cells. parts_stand cells (map (stands cells) ts) at m ≡ true) (sym g.held) (law old.0 g.more ts at m h)

module _ (law : PartsOpen) (cells : List Cell) (ts us : List Term) (left right m n : ℕ) (a b : Cell) (a_is : slice_get cells left ≡ Some a) (b_is : slice_get cells right ≡ Some b)
    (h : parts_stand cells (map (stands cells) ts) left m ≡ true) (g : parts_stand cells (map (stands cells) us) right n ≡ true) where
  pub both_end : false ≡ (a.form == 27) → false ≡ (b.form == 27) → PairIs cells left ts us pair.Ends
  both_end e f = (no_parts law cells left m a a_is e ts h, no_parts law cells right n b b_is f us g)

  pub left_goes : true ≡ (a.form == 27) → false ≡ (b.form == 27) → PairIs cells left ts us pair.Uneven
  left_goes e f =
      let l = linked law cells left m a a_is e ts h in
      inl (l.first, l.rest, l.parts_are, no_parts law cells right n b b_is f us g)

  pub right_goes : false ≡ (a.form == 27) → true ≡ (b.form == 27) → PairIs cells left ts us pair.Uneven
  right_goes e f =
      let l = linked law cells right n b b_is f us g in
      inr (l.first, l.rest, no_parts law cells left m a a_is e ts h, l.parts_are)

  pub both_go : true ≡ (a.form == 27) → true ≡ (b.form == 27) → PairIs cells left ts us (pair.Heads (record { left = a.a; right = b.a; left_rest = a.b; right_rest = b.b }))
  both_go e f =
      let l = linked law cells left m a a_is e ts h in
      let r = linked law cells right n b b_is f us g in
      record {
        first = l.first;
        firsts = l.rest;
        second = r.first;
        seconds = r.rest;
        left_is = l.parts_are;
        right_is = r.parts_are;
        first_stands = l.first_stands;
        second_stands = r.first_stands;
        left_below = l.rest_below;
        right_limit = right;
        left_stands = l.rest_stands;
        right_stands = r.rest_stands;
      }

pub onto_ends : (f : Term) (ts us : List Term) → (ts ≡ []) × (us ≡ []) → equal_onto f ts us ≡ gives f
onto_ends f ts us e = λ i. equal_onto f (e.0 i) (e.1 i)

pub onto_uneven : (cells : List Cell) (left : ℕ) (f : Term) (ts us : List Term) → PairIs cells left ts us pair.Uneven → equal_onto f ts us ≡ None
onto_uneven cells left f ts us (inl e) = λ i. equal_onto f (e.2 i) (e.3 i)
onto_uneven cells left f ts us (inr e) = λ i. equal_onto f (e.2 i) (e.3 i)

pub onto_heads : (cells : List Cell) (left : ℕ) (f : Term) (ts us : List Term) (h : Heads) (a : HeadsAre cells left ts us h) → equal_onto f ts us ≡ equal_onto (and f (eq a.first a.second)) a.firsts a.seconds
onto_heads cells left f ts us h a = λ i. equal_onto f (a.left_is i) (a.right_is i)

pub parts_ends : (ts us : List Term) → (ts ≡ []) × (us ≡ []) → equal_parts ts us ≡ None
parts_ends ts us e = λ i. equal_parts (e.0 i) (e.1 i)

pub parts_uneven : (cells : List Cell) (left : ℕ) (ts us : List Term) → PairIs cells left ts us pair.Uneven → equal_parts ts us ≡ None
parts_uneven cells left ts us (inl e) = λ i. equal_parts (e.2 i) (e.3 i)
parts_uneven cells left ts us (inr e) = λ i. equal_parts (e.2 i) (e.3 i)

pub parts_heads : (cells : List Cell) (left : ℕ) (ts us : List Term) (h : Heads) (a : HeadsAre cells left ts us h) → equal_parts ts us ≡ equal_onto (eq a.first a.second) a.firsts a.seconds
parts_heads cells left ts us h a = λ i. equal_parts (a.left_is i) (a.right_is i)

-- an equation and a tuple, by what is done with them
abbrev term_or : Term → Given → Term
term_or t None = t
term_or t (Some p) = p.0

the_term : (t u : Term) → gives t ≡ gives u → t ≡ u
the_term t u e = ap (term_or t) e

pub eq_is : (x : Term-F Term) (a b : Term) → ((next : Term → Term → Given) → eq_form next x ≡ next a b) → roll-Term x ≡ eq a b
eq_is (Term-F.Eq c d) a b h = the_term (eq c d) (eq a b) (h (λ x y. gives (eq x y)))
eq_is x a b h =
    let e : None ≡ gives a = h (λ x y. gives a) in
    cc

tuple_is : (x : Term-F Term) (ts : List Term) → ((next : List Term → Given) → tuple_form next x ≡ next ts) → roll-Term x ≡ tuple ts
tuple_is (Term-F.Tuple us) ts h = the_term (tuple us) (tuple ts) (h (λ x. gives (tuple x)))
tuple_is x ts h =
    let e : None ≡ gives (tuple ts) = h (λ x. gives (tuple ts)) in
    cc

pub tuple_fewer : (t a b : Term) (ts : List Term) → ((next : Term → Term → Given) → when_eq t next ≡ next a b) → ((next : List Term → Given) → when_tuple a next ≡ next ts) → length ts < nodes t
tuple_fewer t a b ts h g =
    let t_is : t ≡ eq a b = sym (roll-out-Term t) ∙ eq_is (out-Term t) a b h in
    let a_is : a ≡ tuple ts = sym (roll-out-Term a) ∙ tuple_is (out-Term a) ts g in
    let t_out : out-Term t ≡ Term-F.Eq a b = ap out-Term t_is ∙ out-roll-Term (Term-F.Eq a b) in
    let a_out : out-Term a ≡ Term-F.Tuple ts = ap out-Term a_is ∙ out-roll-Term (Term-F.Tuple ts) in
    omega (arith, child_cost t a 0 (ap (λ x. slice_get (children x) 0) t_out), more_nodes a, ap (λ x. length (children x)) a_out)
