use Rattle.cell_rules.proofs.spine.+put_front.Given as goal

abbrev pub decreases-put_front : goal.decreases-put_front
decreases-put_front l = l.p
