use Rattle.cell_rows.proofs.Merging.{Merges}
use Rattle.cell_rows.proofs.forms.add_products.Given as goal

abbrev pub invariant-loop-k : goal.invariant-loop-k
invariant-loop-k l = Merges l.cells.0 l.count l.more l.initial.marks l.k l.total l.marks
