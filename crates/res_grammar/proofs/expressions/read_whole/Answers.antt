use Rattle.res_grammar.specs.Expressions.{expression_table}
use Rattle.res_grammar.proofs.Predictive.{expressions_are_ll1, is_ll1_by, has_classes_by}
use Rattle.res_grammar.proofs.expressions.read_whole.Goals as goal

pub read_with-requires : goal.read_with-requires
read_with-requires c =
    let g = c.grammar_of_expressions in (
      is_ll1_by g.result expression_table g.ensures.flat g.ensures.rules g.ensures.table expressions_are_ll1,
      has_classes_by g.result g.ensures.rules,
    )
