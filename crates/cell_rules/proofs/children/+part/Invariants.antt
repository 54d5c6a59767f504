use Rattle.cell_rules.proofs.children.+part.Given as goal

abbrev pub decreases-part : goal.decreases-part
decreases-part l = l.k
