-- Gathering atoms, step by step.
use Rattle.std.proofs.Common.{◌≡◌, ◌∙◌, sym, ap, refl, subst, ℕ, zero, suc, ◌+◌, ◌-◌, ◌<◌, ◌≤◌, true, List, [], ◌∷◌, ◌++◌, length, get_or, slice_get, Option, Some, None, arith}
use Rattle.math_terms.specs.declared.descriptor.Sort.{Sort}
use Rattle.math_terms.specs.declared.term.Term.{Term}
use Rattle.num_theory.specs.Naming.{most_atoms, negated_goal, rows_at_hand}
use Rattle.num_theory.specs.Table.{Gathered, atoms_of, facts_of, sums_from, with_all_facts, with_facts}
use Rattle.term_cells.specs.declared.cell.Cell.{Cell}
use Rattle.term_cells.specs.Standing.{stands}
use Rattle.term_cells.specs.Placed.{AllStand}
use Rattle.cell_rows.specs.working.Atoms.{AtomsFound, AtomsOrShort, with_fact_rows, with_row}
use Rattle.cell_rows.specs.RowsStand.{goal_row}
use Rattle.cell_rows.proofs.Summing.{atoms_append, atoms_named, facts_atoms, facts_compared, goal_named, sums_append}
use Rattle.math_terms.specs.declared.name.RowName.TheVariants.{Hyp}

pub found : (cells : List Cell) (ts : List Term) (r : Option ℕ) (places : List ℕ) → AtomsOrShort cells ts r places → AtomsFound cells ts r places
found cells ts None places h = tt
found cells ts (Some n) places h = h

module _ (cells : List Cell) where
  -- the atom at a place
  pub atom_at : (ts : List Term) (ps : List ℕ) (i : ℕ) (d : ℕ) → AllStand cells ts ps → i < length ps → (t : Term) × (slice_get ts i ≡ Some t) × (stands cells t (get_or ps i d) ≡ true)
  atom_at [] [] i d h l = absurd (omega arith)
  atom_at [] (p ∷ ps) i d h l = absurd h
  atom_at (t ∷ ts) [] i d h l = absurd h
  atom_at (t ∷ ts) (p ∷ ps) zero d h l = (t, refl, h.0)
  atom_at (t ∷ ts) (p ∷ ps) (suc i) d h l = atom_at ts ps i d h.1 (omega arith)

  pub no_atom_at : (ts : List Term) (ps : List ℕ) (i : ℕ) → AllStand cells ts ps → length ps ≤ i → slice_get ts i ≡ None
  no_atom_at [] [] i h l = refl
  no_atom_at [] (p ∷ ps) i h l = absurd h
  no_atom_at (t ∷ ts) [] i h l = absurd h
  no_atom_at (t ∷ ts) (p ∷ ps) zero h l = absurd (omega arith)
  no_atom_at (t ∷ ts) (p ∷ ps) (suc i) h l = no_atom_at ts ps i h.1 (omega arith)

-- one atom's facts, and those of the others
pub none_left : (i : ℕ) (g : Gathered) → with_all_facts 0 i g ≡ g
unfolding with_all_facts
none_left i g = refl

pub past_atoms : (most i : ℕ) (g : Gathered) → slice_get g.atoms i ≡ None → with_all_facts most i g ≡ g
unfolding with_all_facts
past_atoms zero i g e = refl
past_atoms (suc most) i g e = rw e refl

pub next_atom : (most i : ℕ) (g : Gathered) (t : Term) → 0 < most → slice_get g.atoms i ≡ Some t → with_all_facts most i g ≡ with_all_facts (most - 1) (i + 1) (with_facts g t)
unfolding with_all_facts
next_atom zero i g t l e = absurd (omega arith)
next_atom (suc most) i g t l e =
    let less : suc most - 1 ≡ most = omega arith in
    subst (λ m. with_all_facts (suc most) i g ≡ with_all_facts m (i + 1) (with_facts g t)) (sym less) (rw e refl)

pub facts_added : (g : Gathered) (t : Term) → with_fact_rows g.atoms (facts_of t) ≡ (with_facts g t).atoms
facts_added g t = facts_atoms (g.facts + 1) g.atoms (facts_of t) (facts_compared t)

-- the atoms of the rows of a sequent
pub at_hand : (vars : List Sort) (hs : List Term) (g : Term) → (b : Gathered) × (b.atoms ≡ with_row (atoms_of [] (sums_from vars 1 hs)) (goal_row g)) × (rows_at_hand vars hs g ≡ with_all_facts most_atoms 0 b)
at_hand vars hs g =
    let sums = sums_from vars 1 (hs ++ negated_goal g) in (
      record { atoms = atoms_of [] sums; sums = sums; facts = 0 },
      ap (atoms_of []) (sums_append vars 1 hs (negated_goal g)) ∙ atoms_append [] (sums_from vars 1 hs) (sums_from vars (1 + length hs) (negated_goal g))
          ∙ ap (atoms_of (atoms_of [] (sums_from vars 1 hs))) (goal_named vars (1 + length hs) g) ∙ atoms_named (atoms_of [] (sums_from vars 1 hs)) (Hyp (1 + length hs)) (goal_row g),
      refl,
    )
