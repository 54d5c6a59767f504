use Rattle.ll_grammar.proofs.prefix.derive_prefix.Given as goal

abbrev pub ghost-derive : goal.ghost-derive
ghost-derive v a = v.certificate
