use Rattle.ll_grammar.proofs.reader.take.Given as goal

abbrev pub ghost-settle : goal.ghost-settle
ghost-settle v a = v.certificate
