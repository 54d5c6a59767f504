-- Lists of parts in cells, and terms that are put after others.
use Rattle.std.proofs.Common.{◌≡◌, ◌∙◌, sym, ap, refl, subst, ℕ, ltb, ◌==◌, true, false, List, [], ◌∷◌, ◌++◌, map, Some, slice_get, Result, Ok, Err, IfOk, arith}
use Rattle.std.proofs.lemmas.Bool.{and_from, eqb-false, eqb-true, lt-ltb}
use Rattle.std.proofs.lemmas.List.{append-nil, append_assoc}
use Rattle.math_terms.specs.declared.term.Term.{Term}
use Rattle.term_cells.specs.declared.cell.Cell.{Cell}
use Rattle.term_cells.specs.Laws.{ListAt, PartsOpen}
use Rattle.term_cells.specs.Placed.{AllStand}
use Rattle.term_cells.specs.Standing.{parts_stand, stands, stands_below}

-- the first part and the others
pub record Linked (cells : List Cell) (ts : List Term) (c : Cell) (at : ℕ) : Type 0 where
  pub first : Term
  pub rest : List Term
  pub parts_are : ts ≡ first ∷ rest
  pub first_below : stands_below (stands cells first) c.a at ≡ true
  pub rest_stands : parts_stand cells (map (stands cells) rest) c.b at ≡ true

same_cell : (c d : Cell) → Some c ≡ Some d → c ≡ d
same_cell c d e = cc

module _ (law : PartsOpen) (cells : List Cell) (at limit : ℕ) (c : Cell) (is : slice_get cells at ≡ Some c) where
  told : (ts : List Term) → parts_stand cells (map (stands cells) ts) at limit ≡ true → ListAt cells ts c at
  told ts h =
      let o = law cells ts at limit h in
      subst (λ d. ListAt cells ts d at) (same_cell o.0 c (sym o.1 ∙ is)) o.2

  no_parts : false ≡ (c.form == 27) → (ts : List Term) → parts_stand cells (map (stands cells) ts) at limit ≡ true → ts ≡ []
  no_parts e ts h = by_list ts (told ts h)
    where
      by_list : (us : List Term) → ListAt cells us c at → us ≡ []
      by_list [] l = refl
      by_list (u ∷ us) l = absurd (eqb-false c.form 27 (sym e) l.0)

  pub linked : true ≡ (c.form == 27) → (ts : List Term) → parts_stand cells (map (stands cells) ts) at limit ≡ true → Linked cells ts c at
  linked e ts h = by_list ts (told ts h)
    where
      by_list : (us : List Term) → ListAt cells us c at → Linked cells us c at
      by_list [] l =
          let other : c.form ≡ 27 = eqb-true c.form 27 (sym e) in
          absurd (omega (arith, l, other))
      by_list (u ∷ us) l = record { first = u; rest = us; parts_are = refl; first_below = and_from (ltb c.a at) (stands cells u c.a) (lt-ltb c.a at l.1) l.2; rest_stands = l.4 }

  pub nothing_put : false ≡ (c.form == 27) → (out ts : List Term) → parts_stand cells (map (stands cells) ts) at limit ≡ true → out ≡ out ++ ts
  nothing_put e out ts h = sym (append-nil out) ∙ ap (λ us. out ++ us) (sym (no_parts e ts h))

-- one term and then others are put after what was there
pub put_then : (old pushed new : List Term) (item first : Term) (rest ts : List Term) → pushed ≡ old ++ item ∷ [] → item ≡ first → ts ≡ first ∷ rest → new ≡ pushed ++ rest → new ≡ old ++ ts
put_then old pushed new item first rest ts p i e n =
    n ∙ ap (λ xs. xs ++ rest) p ∙ append_assoc old (item ∷ []) rest ∙ ap (λ u. old ++ u ∷ rest) i ∙ ap (λ us. old ++ us) (sym e)

pub if_ok : {A E : Type 0} {P Q : Type 0} (r : Result A E) → (P → Q) → IfOk r (λ u. P) → IfOk r (λ u. Q)
if_ok (Ok a) f h = f h
if_ok (Err e) f h = h

-- terms at places
pub none_stand : (cells : List Cell) (ts : List Term) (ps : List ℕ) → ps ≡ [] → AllStand cells ts ps → ts ≡ []
none_stand cells [] ps e h = refl
none_stand cells (t ∷ ts) [] e h = absurd h
none_stand cells (t ∷ ts) (p ∷ ps) e h = cc

pub record Listed (cells : List Cell) (ts : List Term) (p : ℕ) (ps : List ℕ) : Type 0 where
  pub first : Term
  pub rest : List Term
  pub terms_are : ts ≡ first ∷ rest
  pub first_stands : stands cells first p ≡ true
  pub rest_stand : AllStand cells rest ps

pub listed : (cells : List Cell) (ts : List Term) (all : List ℕ) (p : ℕ) (ps : List ℕ) → all ≡ p ∷ ps → AllStand cells ts all → Listed cells ts p ps
listed cells ts all p ps e h = listed_of ts (subst (AllStand cells ts) e h)
  where
    listed_of : (us : List Term) → AllStand cells us (p ∷ ps) → Listed cells us p ps
    listed_of [] g = absurd g
    listed_of (u ∷ us) g = record { first = u; rest = us; terms_are = refl; first_stands = g.0; rest_stand = g.1 }
