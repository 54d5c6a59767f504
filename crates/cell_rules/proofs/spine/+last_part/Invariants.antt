use Rattle.cell_rules.proofs.spine.+last_part.Given as goal

abbrev pub decreases-last_part : goal.decreases-last_part
decreases-last_part l = l.p
