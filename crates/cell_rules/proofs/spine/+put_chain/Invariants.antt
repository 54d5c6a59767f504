use Rattle.cell_rules.proofs.spine.+put_chain.Given as goal

abbrev pub decreases-put_chain : goal.decreases-put_chain
decreases-put_chain l = l.p
