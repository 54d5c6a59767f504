use Rattle.cell_rules.proofs.spine.+has_single.Given as goal

abbrev pub decreases-has_single : goal.decreases-has_single
decreases-has_single l = l.p
