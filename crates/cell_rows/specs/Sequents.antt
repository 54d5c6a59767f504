-- Sequents whose formulas stand in cells.
use Rattle.std.specs.Prelude.{◌≡◌, true, List, length}
use Rattle.math_terms.specs.declared.term.Term.{Term}
use Rattle.num_theory.specs.Naming.{rows_at_hand}
use Rattle.num_theory.specs.Table.{Gathered}
use Rattle.term_cells.specs.KindShown.{sorts_of_vars}
use Rattle.term_cells.specs.Placed.{AllStand}
use Rattle.term_cells.specs.Standing.{stands}
use Rattle.cell_rows.specs.declared.sequent.CellSequent.{CellSequent}
use Rattle.cell_rows.specs.declared.sequent.CellTable.{CellTable}
use Rattle.cell_rows.specs.declared.sheet.Sheet.{Sheet}

-- The hypotheses and the goal stand at the places that a sequent in cells has for them.
pub record StandsIn (s : CellSequent) (hyps : List Term) (goal : Term) : Type 0 where
  pub hyps_stand : AllStand s.cells.now.0 hyps s.hyps.now
  pub goal_stands : stands s.cells.now.0 goal s.goal ≡ true

-- the atoms and rows of a sequent in cells with these formulas
abbrev pub table_of : CellSequent → List Term → Term → Gathered
table_of s hyps goal = rows_at_hand (sorts_of_vars s.vars.now) hyps goal

-- The sequent stands, and so do all its atoms at their places.
pub record TableStands (t : CellTable) (hyps : List Term) (goal : Term) : Type 0 where
  pub sequent_stands : StandsIn t.sequent hyps goal
  pub atoms_stand : AllStand t.sequent.cells.now.0 (table_of t.sequent hyps goal).atoms t.atoms.now

-- there is as much room as there was
abbrev pub SameRoom : Sheet → Sheet → Type 0
SameRoom old new = (new.scratch ≡ old.scratch) × (length new.marks.items ≡ length old.marks.items)
