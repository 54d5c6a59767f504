use Rattle.std.proofs.Common.{length, ◌-◌}
use Rattle.edge_io.proofs.ReadPieces.{HasRead}
use Rattle.edge_io.proofs.numbers.parse_numbers.Given as goal

abbrev pub invariant-loop-at : goal.invariant-loop-at
invariant-loop-at l = HasRead l.text l.numbers.items l.at

abbrev pub decreases-loop-at : goal.decreases-loop-at
decreases-loop-at l = length l.text - l.at
