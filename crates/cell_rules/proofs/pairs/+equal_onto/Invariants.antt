use Rattle.cell_rules.proofs.pairs.+equal_onto.Given as goal

abbrev pub decreases-equal_onto : goal.decreases-equal_onto
decreases-equal_onto l = l.left
