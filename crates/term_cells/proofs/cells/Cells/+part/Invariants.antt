use Rattle.term_cells.proofs.cells.Cells.+part.Given as goal

abbrev pub decreases-part : goal.decreases-part
decreases-part l = l.list
