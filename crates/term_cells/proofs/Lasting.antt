-- Standing depends on the cells up to the place alone.
use Rattle.std.proofs.Common.{◌≡◌, refl, ℕ, zero, suc, ◌==◌, ◌<◌, ◌≤◌, Bool, true, false, ◌&&◌, List, [], ◌∷◌, ◌++◌, map, length, take, Some, slice_get, if◌then◌else◌, arith}
use Rattle.std.proofs.lemmas.Bool.{and_parts, and_from, false≢true}
use Rattle.math_terms.specs.declared.term.Term.{Term}
use Rattle.math_terms.specs.declared.term.Term.TheViews.{out-Term}
use Rattle.math_terms.specs.Heads.{children}
use Rattle.term_cells.specs.declared.cell.Cell.{Cell}
use Rattle.term_cells.specs.Standing.{parts_stand, few_stand, quotient_stands, stands, stands_below}
use Rattle.term_cells.proofs.Apart.{below_parts, below_from, end_parts, end_from, link_parts, link_from, quotient_parts, quotient_from}
use Rattle.term_cells.proofs.Openings.{opens, closes, cell_of}

-- below a bound the one list has the cells of the other
abbrev pub HasThose : ℕ → List Cell → List Cell → Type 0
HasThose bound cells others = (k : ℕ) (c : Cell) → k < bound → slice_get cells k ≡ Some c → slice_get others k ≡ Some c

-- what stands at a place below stands there in the other list
abbrev pub LastsBelow : ℕ → List Cell → List Cell → Type 0
LastsBelow node cells others = (t : Term) (at : ℕ) → at < node → stands cells t at ≡ true → stands others t at ≡ true

module _ (cells others : List Cell) where
  child_lasts : (node : ℕ) → LastsBelow node cells others → (t : Term) (at : ℕ) → stands_below (stands cells t) at node ≡ true → stands_below (stands others t) at node ≡ true
  child_lasts node last t at h =
      let p = below_parts (stands cells t) at node h in
      below_from (stands others t) at node p.0 (last t at p.0 p.1)

  few_last : (node : ℕ) → LastsBelow node cells others → (ts : List Term) (c : Cell) → few_stand (map (stands cells) ts) c node ≡ true → few_stand (map (stands others) ts) c node ≡ true
  few_last node last [] c h = refl
  few_last node last (t ∷ []) c h = child_lasts node last t c.a h
  few_last node last (t ∷ u ∷ []) c h =
      let p = and_parts (stands_below (stands cells t) c.a node) (stands_below (stands cells u) c.b node) h in
      and_from (stands_below (stands others t) c.a node) (stands_below (stands others u) c.b node)
      (child_lasts node last t c.a p.0) (child_lasts node last u c.b p.1)
  few_last node last (t ∷ u ∷ v ∷ []) c h =
      let p = and_parts (stands_below (stands cells t) c.a node && stands_below (stands cells u) c.b node) (stands_below (stands cells v) c.c node) h in
      let q = and_parts (stands_below (stands cells t) c.a node) (stands_below (stands cells u) c.b node) p.0 in
      and_from (stands_below (stands others t) c.a node && stands_below (stands others u) c.b node) (stands_below (stands others v) c.c node)
      (and_from (stands_below (stands others t) c.a node) (stands_below (stands others u) c.b node)
      (child_lasts node last t c.a q.0) (child_lasts node last u c.b q.1))
      (child_lasts node last v c.c p.1)
  few_last node last (t ∷ u ∷ v ∷ w ∷ ts) c h = absurd (false≢true h)

  pub parts_last : (bound : ℕ) → HasThose bound cells others → (node : ℕ) → node ≤ bound → LastsBelow node cells others →
      (ts : List Term) (at limit : ℕ) → limit ≤ node → parts_stand cells (map (stands cells) ts) at limit ≡ true → parts_stand others (map (stands others) ts) at limit ≡ true
  parts_last bound same node fits last [] at limit le h =
      let e = end_parts cells at limit h in
      end_from others at limit (record { cell = e.cell; below = e.below; cell_is = same at e.cell (omega (arith, e.below)) e.cell_is; form_is = e.form_is })
  parts_last bound same node fits last (t ∷ ts) at limit le h =
      let l = link_parts cells (stands cells t) (map (stands cells) ts) at limit h in
      link_from others (stands others t) (map (stands others) ts) at limit (record {
        cell = l.cell;
        below = l.below;
        cell_is = same at l.cell (omega (arith, l.below)) l.cell_is;
        form_is = l.form_is;
        part_below = l.part_below;
        part_is = last t l.cell.a (omega (arith, l.below, l.part_below)) l.part_is;
        rest_is = parts_last bound same node fits last ts l.cell.b at (omega (arith, l.below)) l.rest_is;
      })

  quotient_lasts : (bound : ℕ) → HasThose bound cells others → (node : ℕ) → node ≤ bound → (c : Cell) → quotient_stands cells c node ≡ true → quotient_stands others c node ≡ true
  quotient_lasts bound same node fits c h =
      let q = quotient_parts cells c node h in
      quotient_from others c node (record {
        cell = q.cell;
        below = q.below;
        cell_is = same c.c q.cell (omega (arith, q.below)) q.cell_is;
        form_is = q.form_is;
        own_is = q.own_is;
        a_is = q.a_is;
        b_is = q.b_is;
        a_below = q.a_below;
        b_below = q.b_below;
      })

  pub form_lasts : (bound : ℕ) → HasThose bound cells others → (node : ℕ) → node ≤ bound → LastsBelow node cells others → (a b : Bool) (ts : List Term) (c : Cell) →
      (if a then parts_stand cells (map (stands cells) ts) c.a node
      else if b then few_stand (map (stands cells) ts) c node && quotient_stands cells c node
      else few_stand (map (stands cells) ts) c node) ≡ true →
      (if a then parts_stand others (map (stands others) ts) c.a node
      else if b then few_stand (map (stands others) ts) c node && quotient_stands others c node
      else few_stand (map (stands others) ts) c node) ≡ true
  form_lasts bound same node fits last true b ts c h = parts_last bound same node fits last ts c.a node (omega arith) h
  form_lasts bound same node fits last false true ts c h =
      let p = and_parts (few_stand (map (stands cells) ts) c node) (quotient_stands cells c node) h in
      and_from (few_stand (map (stands others) ts) c node) (quotient_stands others c node)
      (few_last node last ts c p.0) (quotient_lasts bound same node fits c p.1)
  form_lasts bound same node fits last false false ts c h = few_last node last ts c h

  lasts_within : (bound : ℕ) → HasThose bound cells others → (m : ℕ) → m ≤ bound → LastsBelow m cells others
  lasts_within bound same zero fits t at l h = absurd (omega arith)
  lasts_within bound same (suc m) fits t at l h =
      let c = cell_of cells t at h in
      let n = opens cells t at c.0 c.1 h in
      let last : LastsBelow at cells others = λ u k below. lasts_within bound same m (omega arith) u k (omega arith) in
      closes others t at c.0 (same at c.0 (omega arith) c.1) (record {
        form_is = n.form_is;
        own_is = n.own_is;
        children_are = form_lasts bound same at (omega arith) last (c.0.form == 16) (c.0.form == 9) (children (out-Term t)) c.0 n.children_are;
      })

  -- Standing at a place below a bound lasts, where the cells below that bound do.
  pub lasts : (bound : ℕ) → HasThose bound cells others → (t : Term) (at : ℕ) → at < bound → stands cells t at ≡ true → stands others t at ≡ true
  lasts bound same t at l h = lasts_within bound same bound (omega arith) t at l h

pub get_append : (cells more : List Cell) (k : ℕ) (c : Cell) → slice_get cells k ≡ Some c → slice_get (cells ++ more) k ≡ Some c
get_append [] more k c e = cc
get_append (d ∷ cells) more zero c e = e
get_append (d ∷ cells) more (suc k) c e = get_append cells more k c e

get_take : (cells : List Cell) (n k : ℕ) (c : Cell) → k < n → slice_get cells k ≡ Some c → slice_get (take n cells) k ≡ Some c
get_take cells zero k c l e = absurd (omega arith)
get_take [] (suc n) k c l e = cc
get_take (d ∷ cells) (suc n) zero c l e = e
get_take (d ∷ cells) (suc n) (suc k) c l e = get_take cells n k c (omega arith) e

pub get_below : (cells : List Cell) (k : ℕ) (c : Cell) → slice_get cells k ≡ Some c → k < length cells
get_below [] k c e = cc
get_below (d ∷ cells) zero c e = omega arith
get_below (d ∷ cells) (suc k) c e =
    let l = get_below cells k c e in
    omega arith

pub stands_inside : (cells : List Cell) (t : Term) (at : ℕ) → stands cells t at ≡ true → at < length cells
stands_inside cells t at h =
    let c = cell_of cells t at h in
    get_below cells at c.0 c.1

pub stands_append : (cells more : List Cell) (t : Term) (at : ℕ) → stands cells t at ≡ true → stands (cells ++ more) t at ≡ true
stands_append cells more t at h =
    lasts cells (cells ++ more) (length cells) (λ k c l e. get_append cells more k c e) t at (stands_inside cells t at h) h

pub stands_take : (cells : List Cell) (n : ℕ) (t : Term) (at : ℕ) → at < n → stands cells t at ≡ true → stands (take n cells) t at ≡ true
stands_take cells n t at l h = lasts cells (take n cells) n (λ k c m e. get_take cells n k c m e) t at l h
