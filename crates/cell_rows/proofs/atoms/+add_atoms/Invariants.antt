use Rattle.std.proofs.Common.{length}
use Rattle.cell_rows.proofs.atoms.+add_atoms.Given as goal

abbrev pub decreases-add_atoms : goal.decreases-add_atoms
decreases-add_atoms l = length l.marks.now
