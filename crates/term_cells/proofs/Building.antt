-- A node stands in the next cell.
use Rattle.std.proofs.Common.{◌≡◌, ◌∙◌, sym, ap, refl, subst, ℕ, ◌==◌, ℤ, Bool, true, false, ◌&&◌, List, [], ◌∷◌, ◌++◌, map, length, Option, Some, None, slice_get, if◌then◌else◌, arith}
use Rattle.std.proofs.lemmas.Bool.{and_from, true≢false}
use Rattle.math_terms.specs.declared.term.Term.{Term}
use Rattle.math_terms.specs.declared.term.Term.TheOpen.{Term-F}
use Rattle.math_terms.specs.declared.term.Term.TheViews.{roll-Term, out-roll-Term}
use Rattle.math_terms.specs.declared.term.Term.TheFolds.{map-Term}
use Rattle.math_terms.specs.Heads.{form, own, children}
use Rattle.term_cells.specs.declared.cell.Cell.{Cell}
use Rattle.term_cells.specs.Standing.{children_stand, parts_stand, few_stand, quotient_stands, stands, stands_below}
use Rattle.term_cells.specs.Growing.{Store, Pushes, HasHead, IsFewForm, StandsAs}
use Rattle.term_cells.proofs.Apart.{below_from}
use Rattle.term_cells.proofs.Forms.{form_stands, mapped_heads, children_stand_is}
use Rattle.term_cells.proofs.Lasting.{form_lasts, stands_append, stands_inside, get_append}
use Rattle.term_cells.proofs.Openings.{closes}

pub get_next : (cells : List Cell) (c : Cell) → slice_get (cells ++ c ∷ []) (length cells) ≡ Some c
get_next [] c = refl
get_next (d ∷ cells) c = get_next cells c

-- by the head of the node
pub node_next : (cells : List Cell) (x : Term-F Term) (c : Cell) → c.form ≡ form x → c.own ≡ own x →
    form_stands cells c.form (map (stands cells) (children x)) c (length cells) ≡ true → stands (cells ++ c ∷ []) (roll-Term x) (length cells) ≡ true
node_next cells x c e f h =
    let others = cells ++ c ∷ [] in
    let at = length cells in
    let all = form_lasts cells others at (λ k d l g. get_append cells (c ∷ []) k d g) at (omega arith) (λ t k l g. stands_append cells (c ∷ []) t k g) (c.form == 16) (c.form == 9) (children x) c h in
    closes others (roll-Term x) at c (get_next cells c) (record {
      form_is = e ∙ ap form (sym (out-roll-Term x));
      own_is = f ∙ ap own (sym (out-roll-Term x));
      children_are = subst (λ y. form_stands others c.form (map (stands others) (children y)) c at ≡ true) (sym (out-roll-Term x)) all;
    })

-- by the test of its children
pub node_stands_next : (cells : List Cell) (x : Term-F Term) (c : Cell) → c.form ≡ form x → c.own ≡ own x →
    children_stand cells (map-Term Term (ℕ → Bool) (stands cells) x) c (length cells) ≡ true → stands (cells ++ c ∷ []) (roll-Term x) (length cells) ≡ true
node_stands_next cells x c e f h =
    let y : Term-F (ℕ → Bool) = map-Term Term (ℕ → Bool) (stands cells) x in
    let heads = mapped_heads (stands cells) x in
    let at = length cells in
    node_next cells x c e f
    ((λ i. form_stands cells (e i) (map (stands cells) (children x)) c at)
    ∙ (λ i. form_stands cells (sym heads.0 i) (sym heads.2 i) c at)
    ∙ sym (children_stand_is cells y c at)
    ∙ h)

form_by_tests : (cells : List Cell) (a b : Bool) (ps : List (ℕ → Bool)) (c : Cell) (node : ℕ) → a ≡ false → b ≡ false → few_stand ps c node ≡ true →
    (if a then parts_stand cells ps c.a node else if b then few_stand ps c node && quotient_stands cells c node else few_stand ps c node) ≡ true
form_by_tests cells true b ps c node e f h = absurd (true≢false e)
form_by_tests cells false true ps c node e f h = absurd (true≢false f)
form_by_tests cells false false ps c node e f h = h

-- a node with up to three children, which is no tuple and no remainder
few_next : (old new : Store) (c : Cell) (at : ℕ) → at ≡ length old.0 → new ≡ (old.0 ++ c ∷ [], old.1) → (ts : List Term) →
    few_stand (map (stands old.0) ts) c (length old.0) ≡ true → (x : Term-F Term) → HasHead x c.form c.own ts → IsFewForm c.form → stands new.0 (roll-Term x) at ≡ true
few_next old new c at e f ts h x w few =
    let kids : few_stand (map (stands old.0) (children x)) c (length old.0) ≡ true = subst (λ us. few_stand (map (stands old.0) us) c (length old.0) ≡ true) (sym w.children_are) h in
    (λ i. stands (f i).0 (roll-Term x) (e i))
    ∙ node_next old.0 x c (sym w.form_is) (sym w.own_is)
    (form_by_tests old.0 (c.form == 16) (c.form == 9) (map (stands old.0) (children x)) c (length old.0) few.no_tuple few.no_remainder kids)

child_stands : (cells : List Cell) (t : Term) (p : ℕ) → stands cells t p ≡ true → stands_below (stands cells t) p (length cells) ≡ true
child_stands cells t p h = below_from (stands cells t) p (length cells) (stands_inside cells t p h) h

pub pushes_as : (old new : Store) (c d : Cell) (r : Option ℕ) → c ≡ d → Pushes old new c r → Pushes old new d r
pushes_as old new c d r e h = subst (λ x. Pushes old new x r) e h

pub pushes_node : (old new : Store) (c : Cell) (r : Option ℕ) (k : ℕ) (n m : ℤ) (a b d : ℕ) → c ≡ record { form = k; own = n; a = a; b = b; c = d } → n ≡ m → Pushes old new c r →
    Pushes old new (record { form = k; own = m; a = a; b = b; c = d }) r
pushes_node old new c r k n m a b d e f h = pushes_as old new c (record { form = k; own = m; a = a; b = b; c = d }) r (e ∙ (λ i. record { form = k; own = f i; a = a; b = b; c = d })) h

pub leaf_pushed : (old new : Store) (c : Cell) (r : Option ℕ) → Pushes old new c r → StandsAs new.0 c.form c.own [] r
leaf_pushed old new c None h = tt
leaf_pushed old new c (Some at) h = few_next old new c at h.0 h.1 [] refl

pub one_pushed : (old new : Store) (c : Cell) (r : Option ℕ) → Pushes old new c r → (t : Term) → stands old.0 t c.a ≡ true → StandsAs new.0 c.form c.own (t ∷ []) r
one_pushed old new c None h t k = tt
one_pushed old new c (Some at) h t k = few_next old new c at h.0 h.1 (t ∷ []) (child_stands old.0 t c.a k)

pub two_stand : (cells : List Cell) (t u : Term) (c : Cell) → stands cells t c.a ≡ true → stands cells u c.b ≡ true → few_stand (map (stands cells) (t ∷ u ∷ [])) c (length cells) ≡ true
two_stand cells t u c h k =
    and_from (stands_below (stands cells t) c.a (length cells)) (stands_below (stands cells u) c.b (length cells)) (child_stands cells t c.a h) (child_stands cells u c.b k)

pub two_pushed : (old new : Store) (c : Cell) (r : Option ℕ) → Pushes old new c r → (t u : Term) → stands old.0 t c.a ≡ true → stands old.0 u c.b ≡ true →
    StandsAs new.0 c.form c.own (t ∷ u ∷ []) r
two_pushed old new c None h t u k l = tt
two_pushed old new c (Some at) h t u k l =
    few_next old new c at h.0 h.1 (t ∷ u ∷ []) (two_stand old.0 t u c k l)

pub three_pushed : (old new : Store) (c : Cell) (r : Option ℕ) → Pushes old new c r → (t u v : Term) →
    stands old.0 t c.a ≡ true → stands old.0 u c.b ≡ true → stands old.0 v c.c ≡ true → StandsAs new.0 c.form c.own (t ∷ u ∷ v ∷ []) r
three_pushed old new c None h t u v k l m = tt
three_pushed old new c (Some at) h t u v k l m =
    let n = length old.0 in
    few_next old new c at h.0 h.1 (t ∷ u ∷ v ∷ [])
    (and_from (stands_below (stands old.0 t) c.a n && stands_below (stands old.0 u) c.b n) (stands_below (stands old.0 v) c.c n)
    (and_from (stands_below (stands old.0 t) c.a n) (stands_below (stands old.0 u) c.b n) (child_stands old.0 t c.a k) (child_stands old.0 u c.b l))
    (child_stands old.0 v c.c m))
