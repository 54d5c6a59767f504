use Rattle.std.proofs.Common.{◌≡◌, ◌≤◌, List, true}
use Rattle.std.specs.List.{position_or_len}
use Rattle.math_terms.specs.declared.term.Term.{Term}
use Rattle.num_theory.specs.Linear.{RawProduct}
use Rattle.num_theory.proofs.Adding.{has}
use Rattle.term_cells.specs.Standing.{stands}
use Rattle.cell_rows.specs.Forms.{RawStand}
use Rattle.cell_rows.proofs.forms.place_of.Given as goal

abbrev pub invariant-loop-k : goal.invariant-loop-k
invariant-loop-k l = (t : Term) (ps : List RawProduct) → stands l.cells.0 t l.atom ≡ true → RawStand l.cells.0 ps l.marks → l.k ≤ position_or_len (has t) ps
