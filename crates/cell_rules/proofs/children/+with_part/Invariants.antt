use Rattle.cell_rules.proofs.children.+with_part.Given as goal

abbrev pub decreases-with_part : goal.decreases-with_part
decreases-with_part l = l.k
