-- Atoms by their places.
use Rattle.std.proofs.Common.{◌≡◌, ◌∙◌, sym, ap, refl, subst, ℕ, suc, ◌+◌, ◌-◌, ◌<◌, ◌≤◌, Bool, true, false, ◌||◌, ◌↔◌, List, [], ◌∷◌, ◌++◌, length, get_or, set, take, drop, if◌then◌else◌, length-append, arith}
use Rattle.std.specs.List.{list_any}
use Rattle.std.proofs.lemmas.List.{take_rest, take_more_set, length-take-le}
use Rattle.math_terms.specs.declared.term.Term.{Term}
use Rattle.math_terms.specs.Heads.{same_term}
use Rattle.num_theory.specs.Linear.{Product}
use Rattle.num_theory.specs.Table.{with_atom, with_atoms}
use Rattle.term_cells.specs.declared.cell.Cell.{Cell}
use Rattle.term_cells.specs.Standing.{stands}
use Rattle.term_cells.specs.Placed.{AllStand}
use Rattle.cell_rows.specs.Forms.{Mark, ProductsStand}
use Rattle.cell_rows.proofs.Marks.{same_is}

-- a list of which the first and the rest are known
pub record FirstProduct (cells : List Cell) (ps : List Product) (ms : List Mark) (d : Mark) : Type 0 where
  pub first : Product
  pub rest : List Product
  pub same : ps ≡ first ∷ rest
  pub first_stands : stands cells first.1 (get_or ms 0 d).1 ≡ true
  pub rest_stands : ProductsStand cells rest (take (length ms - 1) (drop 1 ms))

pub record FirstAtom (cells : List Cell) (ts : List Term) (ps : List ℕ) (d : ℕ) : Type 0 where
  pub first : Term
  pub rest : List Term
  pub same : ts ≡ first ∷ rest
  pub first_stands : stands cells first (get_or ps 0 d) ≡ true
  pub rest_stands : AllStand cells rest (take (length ps - 1) (drop 1 ps))

module _ (cells : List Cell) where
  pub first_product : (ps : List Product) (ms : List Mark) (d : Mark) → 0 < length ms → ProductsStand cells ps ms → FirstProduct cells ps ms d
  first_product ps [] d l h = absurd (omega arith)
  first_product [] (m ∷ ms) d l h = absurd h
  first_product (p ∷ ps) (m ∷ ms) d l h = record { first = p; rest = ps; same = refl; first_stands = h.1; rest_stands = subst (ProductsStand cells ps) (sym (take_rest (m ∷ ms) 1)) h.2 }

  pub first_atom : (ts : List Term) (ps : List ℕ) (d : ℕ) → 0 < length ps → AllStand cells ts ps → FirstAtom cells ts ps d
  first_atom ts [] d l h = absurd (omega arith)
  first_atom [] (p ∷ ps) d l h = absurd h
  first_atom (t ∷ ts) (p ∷ ps) d l h = record { first = t; rest = ts; same = refl; first_stands = h.0; rest_stands = subst (AllStand cells ts) (sym (take_rest (p ∷ ps) 1)) h.1 }

  pub no_products : (ps : List Product) (ms : List Mark) → ms ≡ [] → ProductsStand cells ps ms → ps ≡ []
  no_products [] ms e h = refl
  no_products (p ∷ ps) [] e h = absurd h
  no_products (p ∷ ps) (m ∷ ms) e h = cc

  pub no_atoms : (ts : List Term) (ps : List ℕ) → ps ≡ [] → AllStand cells ts ps → ts ≡ []
  no_atoms [] ps e h = refl
  no_atoms (t ∷ ts) [] e h = absurd h
  no_atoms (t ∷ ts) (p ∷ ps) e h = cc

  pub atoms_counted : (ts : List Term) (ps : List ℕ) → AllStand cells ts ps → length ts ≡ length ps
  atoms_counted [] [] h = refl
  atoms_counted [] (p ∷ ps) h = absurd h
  atoms_counted (t ∷ ts) [] h = absurd h
  atoms_counted (t ∷ ts) (p ∷ ps) h = ap suc (atoms_counted ts ps h.1)

  pub atoms_push : (ts : List Term) (ps : List ℕ) (t : Term) (p : ℕ) → AllStand cells ts ps → stands cells t p ≡ true → AllStand cells (ts ++ t ∷ []) (ps ++ p ∷ [])
  atoms_push [] [] t p h s = (s, tt)
  atoms_push [] (q ∷ ps) t p h s = absurd h
  atoms_push (u ∷ ts) [] t p h s = absurd h
  atoms_push (u ∷ ts) (q ∷ ps) t p h s = (h.0, atoms_push ts ps t p h.1 s)

  -- the answer whether an atom is among those that begin with one that it is, or is not
  pub has_first : (t : Term) (ts : List Term) (ps : List ℕ) (d : ℕ) (f : FirstAtom cells ts ps d) (b : Bool) → (b ≡ true) ↔ (t ≡ f.first) → b ≡ true → true ≡ list_any (same_term t) ts
  has_first t ts ps d f b same is =
      sym (ap (list_any (same_term t)) f.same ∙ ap (λ s. s || list_any (same_term t) f.rest) (sym (same_is cells b t f.first same) ∙ is))

  pub has_later : (t : Term) (ts : List Term) (ps : List ℕ) (d : ℕ) (f : FirstAtom cells ts ps d) (b r : Bool) → (b ≡ true) ↔ (t ≡ f.first) → b ≡ false → r ≡ list_any (same_term t) f.rest → r ≡ list_any (same_term t) ts
  has_later t ts ps d f b r same is rest =
      rest ∙ sym (ap (list_any (same_term t)) f.same ∙ ap (λ s. s || list_any (same_term t) f.rest) (sym (same_is cells b t f.first same) ∙ is))

  module _ (t : Term) (ts : List Term) (b : Bool) (answer : b ≡ list_any (same_term t) ts) where
    pub has_it : b ≡ true → with_atom ts t ≡ ts
    has_it e = ap (λ (x : Bool). if x then ts else ts ++ t ∷ []) (sym answer ∙ e)

    pub has_it_not : b ≡ false → with_atom ts t ≡ ts ++ t ∷ []
    has_it_not e = ap (λ (x : Bool). if x then ts else ts ++ t ∷ []) (sym answer ∙ e)

    pub no_place : (places : List ℕ) (count : ℕ) → b ≡ false → AllStand cells ts (take count places) → length places ≤ count → count ≤ length places → length places < length (with_atom ts t)
    no_place places count e h full room =
        let size = atoms_counted ts (take count places) h in
        let all = length-take-le count places room in
        subst (λ (x : List Term). length places < length x) (sym (has_it_not e)) (omega (arith, size, all, length-append ts (t ∷ [])))

    pub place_taken : (places : List ℕ) (count at : ℕ) → b ≡ false → AllStand cells ts (take count places) → count < length places → stands cells t at ≡ true → AllStand cells (with_atom ts t) (take (count + 1) (set places count at))
    place_taken places count at e h room s =
        subst (λ (x : List Term). AllStand cells x (take (count + 1) (set places count at))) (sym (has_it_not e))
        (subst (AllStand cells (ts ++ t ∷ [])) (sym (take_more_set places count at room)) (atoms_push ts (take count places) t at h s))

-- more atoms are not fewer
pub atom_adds : (ts : List Term) (t : Term) → length ts ≤ length (with_atom ts t)
atom_adds ts t = by_test (list_any (same_term t) ts)
  where
    by_test : (b : Bool) → length ts ≤ length (if b then ts else ts ++ t ∷ [])
    by_test true = omega arith
    by_test false = omega (arith, length-append ts (t ∷ []))

pub atoms_add : (ts : List Term) (ps : List Product) → length ts ≤ length (with_atoms ts ps)
atoms_add ts [] = omega arith
atoms_add ts (p ∷ ps) = omega (arith, atom_adds ts p.1, atoms_add (with_atom ts p.1) ps)
