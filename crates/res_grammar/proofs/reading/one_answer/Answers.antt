use Rattle.res_grammar.specs.Expressions.{expression_table}
use Rattle.res_grammar.specs.Language.{language_rules, language_table}
use Rattle.res_grammar.proofs.Predictive.{language_is_ll1, expressions_are_ll1, language_has_classes}
use Rattle.res_grammar.proofs.OneAnswer.{one_refusal, texts_are_not_refused}
use Rattle.res_grammar.proofs.reading.one_answer.Goals as goal

pub returns : goal.returns
returns c = record {
  refusal = one_refusal language_rules language_table language_is_ll1 language_has_classes c.laws.ensures;
  text = texts_are_not_refused language_rules language_table language_is_ll1 language_has_classes c.laws.ensures;
  refused_expression = one_refusal language_rules expression_table expressions_are_ll1 language_has_classes c.laws.ensures;
  expression = texts_are_not_refused language_rules expression_table expressions_are_ll1 language_has_classes c.laws.ensures;
}
