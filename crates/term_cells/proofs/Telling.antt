-- A place tells the term that stands there.
use Rattle.std.proofs.Common.{◌≡◌, ◌∙◌, sym, ap, refl, ℕ, zero, suc, ◌==◌, ◌<◌, ◌≤◌, Bool, true, false, ◌&&◌, List, [], ◌∷◌, map, length, Some, if◌then◌else◌, arith}
use Rattle.std.proofs.lemmas.Bool.{and_parts, false≢true}
use Rattle.math_terms.specs.declared.term.Term.{Term}
use Rattle.math_terms.specs.declared.term.Term.TheViews.{out-Term}
use Rattle.math_terms.specs.Heads.{form, children}
use Rattle.term_cells.specs.declared.cell.Cell.{Cell}
use Rattle.term_cells.specs.Standing.{parts_stand, few_stand, quotient_stands, stands, stands_below}
use Rattle.term_cells.specs.working.Arity.{arity}
use Rattle.term_cells.proofs.Apart.{below_parts, end_parts, link_parts}
use Rattle.term_cells.proofs.Forms.{form_stands, children_counted, same_terms}
use Rattle.term_cells.proofs.Openings.{opens, cell_of}

-- what follows where the children of a node of a form stand: those of a tuple in a list, others in the cell
few_of_form : (cells : List Cell) (a b : Bool) (ps : List (ℕ → Bool)) (c : Cell) (node : ℕ) → a ≡ false →
    (if a then parts_stand cells ps c.a node else if b then few_stand ps c node && quotient_stands cells c node else few_stand ps c node) ≡ true → few_stand ps c node ≡ true
few_of_form cells true b ps c node e h = cc
few_of_form cells false true ps c node e h = (and_parts (few_stand ps c node) (quotient_stands cells c node) h).0
few_of_form cells false false ps c node e h = h

pub few_of : (cells : List Cell) (k : ℕ) (ps : List (ℕ → Bool)) (c : Cell) (node : ℕ) → (k == 16) ≡ false → form_stands cells k ps c node ≡ true → few_stand ps c node ≡ true
few_of cells k ps c node e h = few_of_form cells (k == 16) (k == 9) ps c node e h

parts_of_form : (cells : List Cell) (a b : Bool) (ps : List (ℕ → Bool)) (c : Cell) (node : ℕ) → a ≡ true →
    (if a then parts_stand cells ps c.a node else if b then few_stand ps c node && quotient_stands cells c node else few_stand ps c node) ≡ true → parts_stand cells ps c.a node ≡ true
parts_of_form cells true b ps c node e h = h
parts_of_form cells false b ps c node e h = absurd (false≢true e)

pub parts_of : (cells : List Cell) (k : ℕ) (ps : List (ℕ → Bool)) (c : Cell) (node : ℕ) → (k == 16) ≡ true → form_stands cells k ps c node ≡ true → parts_stand cells ps c.a node ≡ true
parts_of cells k ps c node e h = parts_of_form cells (k == 16) (k == 9) ps c node e h

module _ (cells : List Cell) where
  -- at a place below, two terms are one
  abbrev pub TellsBelow : ℕ → Type 0
  TellsBelow node = (t u : Term) (at : ℕ) → at < node → stands cells t at ≡ true → stands cells u at ≡ true → t ≡ u

  child_tells : (node : ℕ) → TellsBelow node → (t u : Term) (at : ℕ) → stands_below (stands cells t) at node ≡ true → stands_below (stands cells u) at node ≡ true → t ≡ u
  child_tells node tells t u at h k =
      let p = below_parts (stands cells t) at node h in
      tells t u at p.0 p.1 (below_parts (stands cells u) at node k).1

  few_tell : (node : ℕ) → TellsBelow node → (ts us : List Term) (c : Cell) → length ts ≡ length us →
      few_stand (map (stands cells) ts) c node ≡ true → few_stand (map (stands cells) us) c node ≡ true → ts ≡ us
  few_tell node tells [] [] c e h k = refl
  few_tell node tells [] (u ∷ us) c e h k = cc
  few_tell node tells (t ∷ ts) [] c e h k = cc
  few_tell node tells (t ∷ []) (u ∷ []) c e h k = ap (λ v. v ∷ []) (child_tells node tells t u c.a h k)
  few_tell node tells (t ∷ []) (u ∷ v ∷ us) c e h k = cc
  few_tell node tells (t ∷ s ∷ ts) (u ∷ []) c e h k = cc
  few_tell node tells (t ∷ s ∷ []) (u ∷ v ∷ []) c e h k =
      let p = and_parts (stands_below (stands cells t) c.a node) (stands_below (stands cells s) c.b node) h in
      let q = and_parts (stands_below (stands cells u) c.a node) (stands_below (stands cells v) c.b node) k in
      λ i. child_tells node tells t u c.a p.0 q.0 i ∷ child_tells node tells s v c.b p.1 q.1 i ∷ []
  few_tell node tells (t ∷ s ∷ []) (u ∷ v ∷ w ∷ us) c e h k = cc
  few_tell node tells (t ∷ s ∷ r ∷ ts) (u ∷ v ∷ []) c e h k = cc
  few_tell node tells (t ∷ s ∷ r ∷ []) (u ∷ v ∷ w ∷ []) c e h k =
      let p = and_parts (stands_below (stands cells t) c.a node && stands_below (stands cells s) c.b node) (stands_below (stands cells r) c.c node) h in
      let q = and_parts (stands_below (stands cells u) c.a node && stands_below (stands cells v) c.b node) (stands_below (stands cells w) c.c node) k in
      let m = and_parts (stands_below (stands cells t) c.a node) (stands_below (stands cells s) c.b node) p.0 in
      let n = and_parts (stands_below (stands cells u) c.a node) (stands_below (stands cells v) c.b node) q.0 in
      λ i. child_tells node tells t u c.a m.0 n.0 i ∷ child_tells node tells s v c.b m.1 n.1 i ∷ child_tells node tells r w c.c p.1 q.1 i ∷ []
  few_tell node tells (t ∷ s ∷ r ∷ []) (u ∷ v ∷ w ∷ x ∷ us) c e h k = cc
  few_tell node tells (t ∷ s ∷ r ∷ z ∷ ts) (u ∷ v ∷ w ∷ us) c e h k = absurd (false≢true h)

  parts_tell : (node : ℕ) → TellsBelow node → (ts us : List Term) (at m n : ℕ) → m ≤ node → n ≤ node →
      parts_stand cells (map (stands cells) ts) at m ≡ true → parts_stand cells (map (stands cells) us) at n ≡ true → ts ≡ us
  parts_tell node tells [] [] at m n f g h k = refl
  parts_tell node tells [] (u ∷ us) at m n f g h k =
      let e = end_parts cells at m h in
      let l = link_parts cells (stands cells u) (map (stands cells) us) at n k in
      let one : Some e.cell ≡ Some l.cell = sym e.cell_is ∙ l.cell_is in
      let same : e.cell ≡ l.cell = cc in
      let forms : e.cell.form ≡ l.cell.form = ap (λ (c : Cell). c.form) same in
      absurd (omega (arith, e.form_is, l.form_is))
  parts_tell node tells (t ∷ ts) [] at m n f g h k =
      let l = link_parts cells (stands cells t) (map (stands cells) ts) at m h in
      let e = end_parts cells at n k in
      let one : Some e.cell ≡ Some l.cell = sym e.cell_is ∙ l.cell_is in
      let same : e.cell ≡ l.cell = cc in
      let forms : e.cell.form ≡ l.cell.form = ap (λ (c : Cell). c.form) same in
      absurd (omega (arith, e.form_is, l.form_is))
  parts_tell node tells (t ∷ ts) (u ∷ us) at m n f g h k =
      let l = link_parts cells (stands cells t) (map (stands cells) ts) at m h in
      let r = link_parts cells (stands cells u) (map (stands cells) us) at n k in
      let one : Some r.cell ≡ Some l.cell = sym r.cell_is ∙ l.cell_is in
      let same : r.cell ≡ l.cell = cc in
      let part : stands cells u l.cell.a ≡ true = ap (λ (c : Cell). stands cells u c.a) (sym same) ∙ r.part_is in
      let rest : parts_stand cells (map (stands cells) us) l.cell.b at ≡ true = ap (λ (c : Cell). parts_stand cells (map (stands cells) us) c.b at) (sym same) ∙ r.rest_is in
      let first : t ≡ u = tells t u l.cell.a (omega (arith, l.part_below, l.below)) l.part_is part in
      let others : ts ≡ us = parts_tell node tells ts us l.cell.b at at (omega (arith, l.below)) (omega (arith, l.below)) l.rest_is rest in
      λ i. first i ∷ others i

  form_tells : (node k : ℕ) → TellsBelow node → (a : Bool) → (k == 16) ≡ a → (t u : Term) (c : Cell) → form (out-Term t) ≡ k → form (out-Term u) ≡ k →
      form_stands cells k (map (stands cells) (children (out-Term t))) c node ≡ true → form_stands cells k (map (stands cells) (children (out-Term u))) c node ≡ true →
      children (out-Term t) ≡ children (out-Term u)
  form_tells node k tells true b t u c e f h g =
      parts_tell node tells (children (out-Term t)) (children (out-Term u)) c.a node node (omega arith) (omega arith)
      (parts_of cells k (map (stands cells) (children (out-Term t))) c node b h)
      (parts_of cells k (map (stands cells) (children (out-Term u))) c node b g)
  form_tells node k tells false b t u c e f h g =
      few_tell node tells (children (out-Term t)) (children (out-Term u)) c
      (children_counted (out-Term t) (ap (λ n. n == 16) e ∙ b) ∙ ap arity (e ∙ sym f) ∙ sym (children_counted (out-Term u) (ap (λ n. n == 16) f ∙ b)))
      (few_of cells k (map (stands cells) (children (out-Term t))) c node b h)
      (few_of cells k (map (stands cells) (children (out-Term u))) c node b g)

  tells_within : (m : ℕ) → TellsBelow m
  tells_within zero t u at l h k = absurd (omega arith)
  tells_within (suc m) t u at l h k =
      let c = cell_of cells t at h in
      let n = opens cells t at c.0 c.1 h in
      let o = opens cells u at c.0 c.1 k in
      let tells : TellsBelow at = λ v w p below. tells_within m v w p (omega arith) in
      same_terms t u (sym n.form_is ∙ o.form_is) (sym n.own_is ∙ o.own_is)
      (form_tells at c.0.form tells (c.0.form == 16) refl t u c.0 (sym n.form_is) (sym o.form_is) n.children_are o.children_are)

  pub stands_tells : (t u : Term) (at : ℕ) → stands cells t at ≡ true → stands cells u at ≡ true → t ≡ u
  stands_tells t u at h k = tells_within (suc at) t u at (omega arith) h k
