use Rattle.std.proofs.Common.{◌≡◌, ◌+◌, ◌≤◌, List, ℤ, length, drop}
use Rattle.cell_rows.specs.working.RowsIn.{RowsIn}
use Rattle.cell_rows.proofs.Looking.{Replayed}
use Rattle.cell_rows.proofs.lines.replay.Given as goal

abbrev pub invariant-loop-line : goal.invariant-loop-line
invariant-loop-line l = record {
  counted : l.total ≡ l.count + l.line-index;
  within : l.total ≤ length l.places;
  replayed : (rows : List (List ℤ)) → RowsIn l.width l.count rows l.initial.places → Replayed l.width l.lines (drop l.line-index l.lines) rows l.total l.places;
}
