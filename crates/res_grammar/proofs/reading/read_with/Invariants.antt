use Rattle.res_grammar.proofs.reading.read_with.Given as goal

abbrev pub ghost-derive : goal.ghost-derive
ghost-derive v a = v.certificate
