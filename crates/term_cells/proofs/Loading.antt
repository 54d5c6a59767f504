-- Cells that grow while a term is loaded.
use Rattle.std.proofs.Common.{◌≡◌, ◌∙◌, sym, ap, refl, subst, ℕ, ◌+◌, ◌-◌, ◌==◌, ◌<◌, ◌≤◌, Bool, true, false, ◌&&◌, ℤ, pos, List, [], ◌∷◌, ◌++◌, map, length, take, drop, get_or, sum_by, Option, Some, None, slice_get, if◌then◌else◌, arith}
use Rattle.std.proofs.lemmas.Bool.{and_from, eqb-true, false≢true}
use Rattle.std.proofs.lemmas.List.{append_assoc, append-nil, length-append, take_rest}
use Rattle.std.proofs.lemmas.List.Sums.{sum_by-cons}
use Rattle.math_terms.specs.declared.term.Term.{Term}
use Rattle.math_terms.specs.declared.term.Term.TheOpen.{Term-F}
use Rattle.math_terms.specs.declared.term.Term.TheViews.{roll-Term}
use Rattle.math_terms.specs.Heads.{form, children}
use Rattle.math_terms.specs.Terms.{nodes}
use Rattle.term_cells.specs.declared.cell.Cell.{Cell}
use Rattle.term_cells.specs.Standing.{few_stand, parts_stand, quotient_stands, stands}
use Rattle.term_cells.specs.working.Arity.{arity}
use Rattle.term_cells.specs.Growing.{Store, Pushes, Grows, HasHead, StandsAs, StandsThere, NodeLoads, PartsLoad, has_end}
use Rattle.term_cells.proofs.Apart.{end_parts, end_from, link_parts, link_from, there, there_from, quotient_from}
use Rattle.term_cells.proofs.Forms.{form_stands, children_counted, remade, node_remade}
use Rattle.term_cells.proofs.Lasting.{HasThose, parts_last, stands_append, stands_inside, get_append, get_below}
use Rattle.term_cells.proofs.Building.{get_next, node_next, two_stand, three_pushed}

-- growing twice
pub grows_both : (a b c : Store) (m n k : ℕ) → m + n ≤ k + 1 → Grows a b m → Grows b c n → Grows a c k
grows_both a b c m n k le g h = record {
  room = h.room ∙ g.room;
  more = g.more ++ h.more;
  held = h.held ∙ ap (λ cs. cs ++ h.more) g.held ∙ append_assoc a.0 g.more h.more;
  few = omega (arith, g.few, h.few, length-append g.more h.more);
}

pub grows_not : (a : Store) (k : ℕ) → 0 < k → Grows a a k
grows_not a k l = record { room = refl; more = []; held = sym (append-nil a.0); few = l }

pub grows_push : (old new : Store) (c : Cell) (r : Option ℕ) → Pushes old new c r → Grows old new 2
grows_push old new c None h = subst (λ s. Grows old s 2) (sym h.0) (grows_not old 2 (omega arith))
grows_push old new c (Some at) h =
    record { room = ap (λ (s : Store). s.1) h.1; more = c ∷ []; held = ap (λ (s : Store). s.0) h.1; few = omega arith }

module _ (old new : Store) (n : ℕ) (g : Grows old new n) where
  pub stands_grown : (t : Term) (p : ℕ) → stands old.0 t p ≡ true → stands new.0 t p ≡ true
  stands_grown t p h = ap (λ cs. stands cs t p) g.held ∙ stands_append old.0 g.more t p h

  has_those : HasThose (length old.0) old.0 new.0
  has_those k c l e = ap (λ cs. slice_get cs k) g.held ∙ get_append old.0 g.more k c e

  pub end_grown : (e : ℕ) → has_end old.0 e ≡ true → has_end new.0 e ≡ true
  end_grown e h =
      let test : Cell → Bool = λ c. c.form == 26 in
      let c = there (slice_get old.0 e) test h in
      there_from (slice_get new.0 e) test c.0 (has_those e c.0 (get_below old.0 e c.0 c.1) c.1) c.2

  pub parts_grown : (ts : List Term) (at : ℕ) → parts_stand old.0 (map (stands old.0) ts) at (length old.0) ≡ true → parts_stand new.0 (map (stands new.0) ts) at (length old.0) ≡ true
  parts_grown ts at h =
      parts_last old.0 new.0 (length old.0) has_those (length old.0) (omega arith) (λ t k l e. stands_grown t k e) ts at (length old.0) (omega arith) h

-- a list of parts stands below any later place too
pub parts_wider : (cells : List Cell) (ps : List (ℕ → Bool)) (at m n : ℕ) → m ≤ n → parts_stand cells ps at m ≡ true → parts_stand cells ps at n ≡ true
parts_wider cells [] at m n le h =
    let e = end_parts cells at m h in
    end_from cells at n (record { cell = e.cell; below = omega (arith, e.below); cell_is = e.cell_is; form_is = e.form_is })
parts_wider cells (p ∷ ps) at m n le h =
    let l = link_parts cells p ps at m h in
    link_from cells p ps at n (record {
      cell = l.cell;
      below = omega (arith, l.below);
      cell_is = l.cell_is;
      form_is = l.form_is;
      part_below = l.part_below;
      part_is = l.part_is;
      rest_is = l.rest_is;
    })

-- the end of the lists is a list of no parts
pub no_parts : (cells : List Cell) (e : ℕ) → has_end cells e ≡ true → (ts : List Term) → length ts < 1 → parts_stand cells (map (stands cells) ts) e (length cells) ≡ true
no_parts cells e h [] l =
    let test : Cell → Bool = λ c. c.form == 26 in
    let c = there (slice_get cells e) test h in
    end_from cells e (length cells) (record { cell = c.0; below = get_below cells e c.0 c.1; cell_is = c.1; form_is = eqb-true c.0.form 26 c.2 })
no_parts cells e h (t ∷ ts) l = absurd (omega arith)

-- what comes after the first part
abbrev pub rest_of : List Term → List Term
rest_of ts = take (length ts - 1) (drop 1 ts)

pub first_of : (ts : List Term) (t : Term) → 1 ≤ length ts → t ≡ get_or ts 0 t → ts ≡ t ∷ rest_of ts
first_of [] t l e = absurd (omega arith)
first_of (u ∷ ts) t l e = (λ i. sym e i ∷ sym (take_rest (u ∷ ts) 1) i)

pub sum_first : (ts : List Term) (t : Term) → 1 ≤ length ts → t ≡ get_or ts 0 t → sum_by nodes ts ≡ nodes t + sum_by nodes (rest_of ts)
sum_first ts t l e = ap (sum_by nodes) (first_of ts t l e) ∙ sum_by-cons nodes t (rest_of ts)

-- a part before others that stand
pub link_loads : (old mid new : Store) (n : ℕ) → Grows old mid n → (c : Cell) (r : Option ℕ) → c.form ≡ 27 → Pushes mid new c r → (t : Term) (ts : List Term) →
    parts_stand old.0 (map (stands old.0) ts) c.b (length old.0) ≡ true → stands mid.0 t c.a ≡ true → PartsLoad new.0 (t ∷ ts) r
link_loads old mid new n g c None e p t ts h k = tt
link_loads old mid new n g c (Some at) e p t ts h k =
    let q = grows_push mid new c (Some at) p in
    let all = grows_both old mid new n 2 (n + 2) (omega arith) g q in
    let held : new.0 ≡ mid.0 ++ c ∷ [] = ap (λ (s : Store). s.0) p.1 in
    let longer : length old.0 ≤ length mid.0 = omega (arith, ap length g.held, length-append old.0 g.more) in
    let place : at ≡ length mid.0 = p.0 in
    link_from new.0 (stands new.0 t) (map (stands new.0) ts) at (length new.0) (record {
      cell = c;
      below = omega (arith, ap length held, length-append mid.0 (c ∷ []), place);
      cell_is = (λ i. slice_get (held i) (place i)) ∙ get_next mid.0 c;
      form_is = e;
      part_below = omega (arith, stands_inside mid.0 t c.a k, place);
      part_is = stands_grown mid new 2 q t c.a k;
      rest_is = parts_wider new.0 (map (stands new.0) ts) c.b (length old.0) at (omega arith) (parts_grown old new (n + 2) all ts c.b h);
    })

-- a node that is no tuple
pub as_loads : (cells : List Cell) (k : ℕ) (n : ℤ) (ts : List Term) (r : Option ℕ) → (k == 9) ≡ false → StandsAs cells k n ts r → NodeLoads false cells k n ts r
as_loads cells k n ts None e h x w f = tt
as_loads cells k n ts (Some at) e h x w f = h x w (record { no_tuple = f; no_remainder = e })

-- a tuple
tuple_form : (cells : List Cell) (a b : Bool) (ps : List (ℕ → Bool)) (c : Cell) (node : ℕ) → a ≡ true → parts_stand cells ps c.a node ≡ true →
    (if a then parts_stand cells ps c.a node else if b then few_stand ps c node && quotient_stands cells c node else few_stand ps c node) ≡ true
tuple_form cells true b ps c node e h = h
tuple_form cells false b ps c node e h = absurd (false≢true e)

pub tuple_loads : (old new : Store) (c : Cell) (r : Option ℕ) → Pushes old new c r → (ts : List Term) → parts_stand old.0 (map (stands old.0) ts) c.a (length old.0) ≡ true →
    NodeLoads true new.0 c.form c.own ts r
tuple_loads old new c None p ts h x w f = tt
tuple_loads old new c (Some at) p ts h x w f =
    let kids : parts_stand old.0 (map (stands old.0) (children x)) c.a (length old.0) ≡ true = ap (λ us. parts_stand old.0 (map (stands old.0) us) c.a (length old.0)) w.children_are ∙ h in
    (λ i. stands (p.1 i).0 (roll-Term x) (p.0 i))
    ∙ node_next old.0 x c (sym w.form_is) (sym w.own_is)
    (tuple_form old.0 (c.form == 16) (c.form == 9) (map (stands old.0) (children x)) c (length old.0) f kids)

-- a remainder
pub remainder_is : (x : Term-F Term) (n : ℤ) (t u : Term) → HasHead x 9 n (t ∷ u ∷ []) → x ≡ Term-F.Mod t u
remainder_is x n t u w =
    let e : Some (Term-F.Mod t u) ≡ Some x = (λ i. remade (sym w.form_is i) (sym w.own_is i) (sym w.children_are i)) ∙ node_remade x in
    cc

pub remainder_loads : (new : Store) (k : ℕ) (n : ℤ) (t u : Term) (r : Option ℕ) → k ≡ 9 → StandsThere new.0 (roll-Term (Term-F.Mod t u)) r → NodeLoads false new.0 k n (t ∷ u ∷ []) r
remainder_loads new k n t u r e h x w f =
    let same : x ≡ Term-F.Mod t u = remainder_is x n t u (record { form_is = w.form_is ∙ e; own_is = w.own_is; children_are = w.children_are }) in
    subst (λ y. StandsThere new.0 (roll-Term y) r) (sym same) h

-- the quotient that comes before a remainder
pub remainder_pushed : (old mid new : Store) (d c : Cell) (q : ℕ) (r : Option ℕ) → Pushes old mid d (Some q) → Pushes mid new c r →
    d.form ≡ 8 → d.own ≡ pos 0 → d.a ≡ c.a → d.b ≡ c.b → c.form ≡ 9 → c.own ≡ pos 0 → c.c ≡ q →
    (t u : Term) → stands old.0 t c.a ≡ true → stands old.0 u c.b ≡ true → StandsThere new.0 (roll-Term (Term-F.Mod t u)) r
remainder_pushed old mid new d c q None p s df dn da db cf co cc_is t u h k = tt
remainder_pushed old mid new d c q (Some at) p s df dn da db cf co cc_is t u h k =
    let held : mid.0 ≡ old.0 ++ d ∷ [] = ap (λ (x : Store). x.0) p.1 in
    let g = grows_push old mid d (Some q) p in
    let first = stands_inside old.0 t c.a h in
    let second = stands_inside old.0 u c.b k in
    let x : Term-F Term = Term-F.Mod t u in
    let few = two_stand mid.0 t u c (stands_grown old mid 2 g t c.a h) (stands_grown old mid 2 g u c.b k) in
    let place : c.c ≡ length old.0 = cc_is ∙ p.0 in
    let quotient = quotient_from mid.0 c (length mid.0) (record {
      cell = d;
      below = omega (arith, ap length held, length-append old.0 (d ∷ []), place);
      cell_is = (λ i. slice_get (held i) (place i)) ∙ get_next old.0 d;
      form_is = df;
      own_is = dn;
      a_is = da;
      b_is = db;
      a_below = omega (arith, first, place);
      b_below = omega (arith, second, place);
    }) in
    (λ i. stands (s.1 i).0 (roll-Term x) (s.0 i))
    ∙ node_next mid.0 x c cf co
    (ap (λ k. form_stands mid.0 k (map (stands mid.0) (t ∷ u ∷ [])) c (length mid.0)) cf
    ∙ and_from (few_stand (map (stands mid.0) (t ∷ u ∷ [])) c (length mid.0)) (quotient_stands mid.0 c (length mid.0)) few quotient)

-- a node with three children is no remainder
three_not_nine : (x : Term-F Term) (k : ℕ) (n : ℤ) (t u v : Term) → HasHead x k n (t ∷ u ∷ v ∷ []) → (b : Bool) → (k == 9) ≡ b → (k == 9) ≡ false
three_not_nine x k n t u v w false e = e
three_not_nine x k n t u v w true e =
    let nine : k ≡ 9 = eqb-true k 9 e in
    let counted = children_counted x (ap (λ m. m == 16) (w.form_is ∙ nine)) in
    let length_is : length (children x) ≡ 3 = ap length w.children_are in
    let two : arity (form x) ≡ 2 = ap arity (w.form_is ∙ nine) in
    absurd (omega arith)

pub three_loads : (old new : Store) (c : Cell) (r : Option ℕ) → Pushes old new c r → (t u v : Term) →
    stands old.0 t c.a ≡ true → stands old.0 u c.b ≡ true → stands old.0 v c.c ≡ true → NodeLoads false new.0 c.form c.own (t ∷ u ∷ v ∷ []) r
three_loads old new c r p t u v h k l x w f =
    as_loads new.0 c.form c.own (t ∷ u ∷ v ∷ []) r (three_not_nine x c.form c.own t u v w (c.form == 9) refl) (three_pushed old new c r p t u v h k l) x w f
