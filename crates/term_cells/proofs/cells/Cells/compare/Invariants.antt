use Rattle.std.proofs.Common.{◌≡◌, ℕ, List}
use Rattle.num_theory.specs.Linear.{text_before}
use Rattle.term_cells.specs.working.Reading.{Reads, weight}
use Rattle.term_cells.proofs.cells.Cells.compare.Given as goal

abbrev pub invariant-bytes : goal.invariant-bytes
invariant-bytes l = record {
  left_room : l.left.1 ≡ l.initial.left.1;
  right_room : l.right.1 ≡ l.initial.right.1;
  rests : (x y : List ℕ) → Reads l.self.0 l.initial.left x → Reads l.self.0 l.initial.right y
      → (r : List ℕ) × (s : List ℕ) × Reads l.self.0 l.left r × Reads l.self.0 l.right s × (text_before x y ≡ text_before r s);
}

abbrev pub decreases-bytes : goal.decreases-bytes
decreases-bytes l = weight l.left
