use Rattle.res_grammar.specs.Language.{language_rules, language_table}
use Rattle.res_grammar.proofs.Predictive.{language_is_ll1}
use Rattle.res_grammar.proofs.reading.one_derivation.Goals as goal

pub returns : goal.returns
returns c = c.one_derivation.ensures language_rules language_table language_is_ll1
