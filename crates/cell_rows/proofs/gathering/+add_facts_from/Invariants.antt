use Rattle.cell_rows.proofs.gathering.+add_facts_from.Given as goal

abbrev pub decreases-add_facts_from : goal.decreases-add_facts_from
decreases-add_facts_from l = l.most
