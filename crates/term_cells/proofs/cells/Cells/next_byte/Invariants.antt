use Rattle.std.proofs.Common.{◌≡◌, ◌≤◌, ℕ, List}
use Rattle.term_cells.specs.working.Reading.{Reads, weight}
use Rattle.term_cells.proofs.cells.Cells.next_byte.Given as goal

abbrev pub invariant-loop-byte : goal.invariant-loop-byte
invariant-loop-byte l = record {
  room : l.reading.1 ≡ l.initial.reading.1;
  no_more : weight l.reading ≤ weight l.initial.reading;
  same_text : (text : List ℕ) → Reads l.self.0 l.initial.reading text → Reads l.self.0 l.reading text;
}

abbrev pub decreases-loop-byte : goal.decreases-loop-byte
decreases-loop-byte l = weight l.reading
