-- The atoms of a sequent's rows differ, and have no more nodes than its formulas.
use Rattle.std.proofs.Common.{◌≡◌, sym, subst, ℕ, zero, suc, ◌+◌, ◌<◌, ◌≤◌, List, [], ◌∷◌, length, Option, Some, None, IfNone, Result, Ok, Err, OnErr, slice_get, take, arith}
use Rattle.math_terms.specs.declared.descriptor.Sort.{Sort}
use Rattle.math_terms.specs.declared.term.Term.{Term}
use Rattle.math_terms.specs.Terms.{nodes}
use Rattle.num_theory.specs.Naming.{most_atoms, rows_at_hand}
use Rattle.num_theory.specs.Table.{Gathered, atoms_of, facts_of, go_on, sums_from, sums_of, with_all_facts, with_facts}
use Rattle.term_cells.specs.declared.cell.Cell.{Cell}
use Rattle.cell_rows.specs.declared.difference.CellRow.{CellRow}
use Rattle.cell_rows.specs.declared.difference.Short.{Short}
use Rattle.cell_rows.specs.working.Atoms.{with_fact_rows, with_row}
use Rattle.cell_rows.specs.working.Finding.{numbered}
use Rattle.cell_rows.specs.Forms.{Mark}
use Rattle.cell_rows.specs.RowsStand.{Row, RowOrShort, first_row, goal_row, second_row}
use Rattle.cell_rows.specs.working.Small.{Small}
use Rattle.cell_rows.specs.working.Tame.{Tame}
use Rattle.cell_rows.proofs.Bounded.{facts_more, facts_small, first_small, goal_small, row_more, second_small}
use Rattle.cell_rows.proofs.Crowded.{tame_facts, tame_none, tame_row}
use Rattle.cell_rows.proofs.Gathered.{at_hand, facts_added}
use Rattle.cell_rows.proofs.Summing.{atoms_append, formula_atoms}

pub small_at : (most : ℕ) (ts : List Term) (i : ℕ) (t : Term) → Small most ts → slice_get ts i ≡ Some t → nodes t ≤ most
small_at most [] i t h e = cc
small_at most (u ∷ ts) zero t h e =
    let same : u ≡ t = cc in
    subst (λ x. nodes x ≤ most) same h.0
small_at most (u ∷ ts) (suc i) t h e = small_at most ts i t h.1 e

pub small_taken : (most n : ℕ) (ts : List Term) → Small most ts → Small most (take n ts)
small_taken most zero ts h = tt
small_taken most (suc n) [] h = tt
small_taken most (suc n) (t ∷ ts) h = (h.0, small_taken most n ts h.1)

pub small_numbered : (most : ℕ) (ts : List Term) (k : ℕ) (t : Term) → Small most ts → numbered ts k ≡ Some t → nodes t ≤ most
small_numbered most ts zero t h e = cc
small_numbered most ts (suc k) t h e = small_at most ts k t h e

-- a row that needs no more places than so many
pub row_short : (cells : List Cell) (row : Option Row) (n size : ℕ) (r : Result (Option CellRow) Short) (marks : List Mark) (m : ℕ) → length marks ≡ m → n ≤ size → RowOrShort cells row n r marks → OnErr r (m < size)
row_short cells row n size (Err e) marks m same l h = omega (arith, h)
row_short cells row n size (Ok raw) marks m same l h = tt

-- a number of places by another name
pub as_short : (o : Option ℕ) (m n size : ℕ) → m ≡ n → IfNone o (m < size) → IfNone o (n < size)
as_short None m n size e h = omega (arith, h)
as_short (Some k) m n size e h = tt

module _ (most : ℕ) where
  pub tame_formula : (vars : List Sort) (k : ℕ) (ts : List Term) (f : Term) → nodes f ≤ most → Tame most ts → Tame most (atoms_of ts (sums_of vars k f))
  tame_formula vars k ts f l h =
      let first = tame_row most ts (first_row vars f) (row_more (nodes f) most (first_row vars f) l (first_small vars f)) h in
      subst (Tame most) (formula_atoms vars k ts f) (tame_row most (with_row ts (first_row vars f)) (second_row vars f) (row_more (nodes f) most (second_row vars f) l (second_small vars f)) first)

  pub tame_formulas : (vars : List Sort) (k : ℕ) (fs ts : List Term) → Small most fs → Tame most ts → Tame most (atoms_of ts (sums_from vars k fs))
  tame_formulas vars k [] ts s h = h
  tame_formulas vars k (f ∷ fs) ts s h =
      subst (Tame most) (sym (atoms_append ts (sums_of vars k f) (sums_from vars (k + 1) fs)))
      (tame_formulas vars (k + 1) fs (atoms_of ts (sums_of vars k f)) s.1 (tame_formula vars k ts f s.0 h))

  pub tame_goal : (ts : List Term) (g : Term) → nodes g ≤ most → Tame most ts → Tame most (with_row ts (goal_row g))
  tame_goal ts g l h = tame_row most ts (goal_row g) (row_more (nodes g) most (goal_row g) l (goal_small g)) h

  pub tame_facts_of : (ts : List Term) (t : Term) → nodes t ≤ most → Tame most ts → Tame most (with_fact_rows ts (facts_of t))
  tame_facts_of ts t l h = tame_facts most ts (facts_of t) (facts_more (nodes t) most (facts_of t) l (facts_small t)) h

  tame_all : (n i : ℕ) (g : Gathered) → Tame most g.atoms → Tame most (with_all_facts n i g).atoms
  unfolding with_all_facts
  tame_all zero i g h = h
  tame_all (suc n) i g h = by_place (slice_get g.atoms i) (λ t e. tame_all n (i + 1) (with_facts g t) (subst (Tame most) (facts_added g t) (tame_facts_of g.atoms t (small_at most g.atoms i t h.small e) h)))
    where
      by_place : (o : Option Term) → ((t : Term) → o ≡ Some t → Tame most (with_all_facts n (i + 1) (with_facts g t)).atoms) → Tame most (go_on g o (λ t. with_all_facts n (i + 1) (with_facts g t))).atoms
      by_place None rest = h
      by_place (Some t) rest = rest t (λ i. Some t)

  -- So it is of all atoms of a sequent.
  pub tame_at_hand : (vars : List Sort) (hs : List Term) (g : Term) → Small most (g ∷ hs) → Tame most (rows_at_hand vars hs g).atoms
  tame_at_hand vars hs g s =
      let b = at_hand vars hs g in
      let begun = tame_goal (atoms_of [] (sums_from vars 1 hs)) g s.0 (tame_formulas vars 1 hs [] s.1 (tame_none most)) in
      subst (λ (x : Gathered). Tame most x.atoms) (sym b.2) (tame_all most_atoms 0 b.0 (subst (Tame most) (sym b.1) begun))
