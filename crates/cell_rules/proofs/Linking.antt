-- Lists of parts in cells.
use Rattle.std.proofs.Common.{◌≡◌, ◌∙◌, sym, ap, refl, subst, ℕ, suc, ltb, ◌==◌, ◌<◌, Bool, true, false, ◌&&◌, List, [], ◌∷◌, ◌+◌, ◌++◌, IfSome, length, map, set, Option, Some, None, slice_get, arith}
use Rattle.std.proofs.lemmas.Bool.{and_parts, and_from, eqb-false, eqb-true, lt-ltb}
use Rattle.std.proofs.lemmas.List.{length-append}
use Rattle.std.proofs.lemmas.Option.{slice_get_within}
use Rattle.math_terms.specs.declared.term.Term.{Term}
use Rattle.term_cells.specs.declared.cell.Cell.{Cell}
use Rattle.term_cells.specs.Growing.{Pushes, Store}
use Rattle.term_cells.specs.KindShown.{PartAt}
use Rattle.term_cells.specs.Laws.{ListAt, PartsLast, PartsOpen, StandingLasts, StandsBelowNext}
use Rattle.term_cells.specs.Standing.{parts_stand, stands, stands_below, with_cell}

same_cell : (c d : Cell) → Some c ≡ Some d → c ≡ d
same_cell c d e = cc

-- the list has a cell
pub list_cell : PartsOpen → (cells : List Cell) (ts : List Term) (at limit : ℕ) → parts_stand cells (map (stands cells) ts) at limit ≡ true → (c : Cell) × (slice_get cells at ≡ Some c)
list_cell law cells ts at limit h =
    let o = law cells ts at limit h in
    (o.0, o.1)

-- the first part and the others
pub record Linked (cells : List Cell) (ts : List Term) (c : Cell) (at : ℕ) : Type 0 where
  pub first : Term
  pub rest : List Term
  pub parts_are : ts ≡ first ∷ rest
  pub first_stands : stands cells first c.a ≡ true
  pub rest_below : c.b < at
  pub rest_stands : parts_stand cells (map (stands cells) rest) c.b at ≡ true

module _ (law : PartsOpen) (cells : List Cell) (at limit : ℕ) (c : Cell) (is : slice_get cells at ≡ Some c) where
  told : (ts : List Term) → parts_stand cells (map (stands cells) ts) at limit ≡ true → ListAt cells ts c at
  told ts h =
      let o = law cells ts at limit h in
      subst (λ d. ListAt cells ts d at) (same_cell o.0 c (sym o.1 ∙ is)) o.2

  pub no_parts : false ≡ (c.form == 27) → (ts : List Term) → parts_stand cells (map (stands cells) ts) at limit ≡ true → ts ≡ []
  no_parts e ts h = by_list ts (told ts h)
    where
      by_list : (us : List Term) → ListAt cells us c at → us ≡ []
      by_list [] l = refl
      by_list (u ∷ us) l = absurd (eqb-false c.form 27 (sym e) l.0)

  pub linked : true ≡ (c.form == 27) → (ts : List Term) → parts_stand cells (map (stands cells) ts) at limit ≡ true → Linked cells ts c at
  linked e ts h = by_list ts (told ts h)
    where
      by_list : (us : List Term) → ListAt cells us c at → Linked cells us c at
      by_list [] l =
          let other : c.form ≡ 27 = eqb-true c.form 27 (sym e) in
          absurd (omega (arith, l, other))
      by_list (u ∷ us) l = record { first = u; rest = us; parts_are = refl; first_stands = l.2; rest_below = l.3; rest_stands = l.4 }

-- the same below another place
relimit : (cells : List Cell) (ts : List Term) (at n m : ℕ) → ltb at m ≡ true → parts_stand cells (map (stands cells) ts) at n ≡ true → parts_stand cells (map (stands cells) ts) at m ≡ true
relimit cells [] at n m l h =
    let test : Cell → Bool = λ c. c.form == 26 in
    and_from (ltb at m) (with_cell (slice_get cells at) test) l (and_parts (ltb at n) (with_cell (slice_get cells at) test) h).1
relimit cells (t ∷ ts) at n m l h =
    let test : Cell → Bool = λ c. (c.form == 27) && stands_below (stands cells t) c.a at && parts_stand cells (map (stands cells) ts) c.b at in
    and_from (ltb at m) (with_cell (slice_get cells at) test) l (and_parts (ltb at n) (with_cell (slice_get cells at) test) h).1

pub below_all : PartsOpen → (cells : List Cell) (ts : List Term) (at n : ℕ) → parts_stand cells (map (stands cells) ts) at n ≡ true → parts_stand cells (map (stands cells) ts) at (length cells) ≡ true
below_all law cells ts at n h =
    let o = list_cell law cells ts at n h in
    relimit cells ts at n (length cells) (lt-ltb at (length cells) (slice_get_within cells at o.0 o.1)) h

-- the part of a number
pub part_at_first : (cells : List Cell) (ts : List Term) (t : Term) (rest : List Term) (p k : ℕ) → ts ≡ t ∷ rest → k ≡ 0 → stands cells t p ≡ true → PartAt cells ts k (Some p)
part_at_first cells ts t rest p k e z h = (t, (λ i. slice_get (e i) (z i)), h)

part_at_later : (cells : List Cell) (t : Term) (rest : List Term) (m : ℕ) (r : Option ℕ) → PartAt cells rest m r → PartAt cells (t ∷ rest) (suc m) r
part_at_later cells t rest m None h = h
part_at_later cells t rest m (Some p) h = h

pub part_at_next : (cells : List Cell) (ts : List Term) (t : Term) (rest : List Term) (k m : ℕ) (r : Option ℕ) → ts ≡ t ∷ rest → k ≡ suc m → PartAt cells rest m r → PartAt cells ts k r
part_at_next cells ts t rest k m r e z h =
    subst (λ us. PartAt cells us k r) (sym e) (subst (λ n. PartAt cells (t ∷ rest) n r) (sym z) (part_at_later cells t rest m r h))

get_next : (cells : List Cell) (c : Cell) → slice_get (cells ++ c ∷ []) (length cells) ≡ Some c
get_next [] c = refl
get_next (d ∷ cells) c = get_next cells c

-- a part before a list that stands
pub link_next : StandingLasts → PartsLast → StandsBelowNext → (cells : List Cell) (t : Term) (ts : List Term) (p rest : ℕ) → stands cells t p ≡ true
    → parts_stand cells (map (stands cells) ts) rest (length cells) ≡ true → (c : Cell) → c.form ≡ 27 → c.a ≡ p → c.b ≡ rest →
    parts_stand (cells ++ c ∷ []) (map (stands (cells ++ c ∷ [])) (t ∷ ts)) (length cells) (length (cells ++ c ∷ [])) ≡ true
link_next law parts below cells t ts p rest h g c f a b =
    let new = cells ++ c ∷ [] in
    let at = length cells in
    let test : Cell → Bool = λ c. (c.form == 27) && stands_below (stands new t) c.a at && parts_stand new (map (stands new) ts) c.b at in
    let s = and_parts (ltb p at) (stands cells t p) (below cells t p h) in
    let first : stands_below (stands new t) c.a at ≡ true = ap (λ k. stands_below (stands new t) k at) a ∙ and_from (ltb p at) (stands new t p) s.0 (law cells (c ∷ []) t p h) in
    let others : parts_stand new (map (stands new) ts) c.b at ≡ true = ap (λ k. parts_stand new (map (stands new) ts) k at) b ∙ parts cells (c ∷ []) ts rest at g in
    let all : test c ≡ true =
    and_from ((c.form == 27) && stands_below (stands new t) c.a at) (parts_stand new (map (stands new) ts) c.b at)
    (and_from (c.form == 27) (stands_below (stands new t) c.a at) (ap (λ k. k == 27) f) first) others in
    let longer : at < length new =
    let size : length new ≡ at + 1 = length-append cells (c ∷ []) in
    omega (arith, size) in
    and_from (ltb at (length new)) (with_cell (slice_get new at) test) (lt-ltb at (length new) longer) (ap (λ d. with_cell d test) (get_next cells c) ∙ all)

pub link_pushed : StandingLasts → PartsLast → StandsBelowNext → (old new : Store) (c : Cell) (r : Option ℕ) → Pushes old new c r → c.form ≡ 27 → (ts : List Term) (t : Term) → stands old.0 t c.a ≡ true
    → parts_stand old.0 (map (stands old.0) ts) c.b (length old.0) ≡ true → IfSome r (λ at. parts_stand new.0 (map (stands new.0) (t ∷ ts)) at (length new.0) ≡ true)
link_pushed law parts below old new c None h f ts t first others = tt
link_pushed law parts below old new c (Some at) h f ts t first others =
    (λ i. parts_stand (h.1 i).0 (map (stands (h.1 i).0) (t ∷ ts)) (h.0 i) (length (h.1 i).0))
    ∙ link_next law parts below old.0 t ts c.a c.b first others c f refl refl

-- the list with another part
pub set_first : (ts : List Term) (t : Term) (rest : List Term) (k : ℕ) (n : Term) → ts ≡ t ∷ rest → k ≡ 0 → set ts k n ≡ n ∷ rest
set_first ts t rest k n e z = λ i. set (e i) (z i) n

pub set_later : (ts : List Term) (t : Term) (rest : List Term) (k m : ℕ) (n : Term) → ts ≡ t ∷ rest → k ≡ suc m → set ts k n ≡ t ∷ set rest m n
set_later ts t rest k m n e z = λ i. set (e i) (z i) n

pub get_later : (ts : List Term) (t : Term) (rest : List Term) (k m : ℕ) (u : Term) → ts ≡ t ∷ rest → k ≡ suc m → slice_get ts k ≡ Some u → slice_get rest m ≡ Some u
get_later ts t rest k m u e z h = (λ i. slice_get (sym e i) (sym z i)) ∙ h

pub none_there : (ts : List Term) (k : ℕ) (u : Term) → ts ≡ [] → slice_get ts k ≡ Some u → ⊥
none_there [] k u e h = cc
none_there (t ∷ ts) k u e h = cc
