use Rattle.res_grammar.specs.Language.{language_table}
use Rattle.res_grammar.proofs.Predictive.{language_is_ll1, is_ll1_by, has_classes_by}
use Rattle.res_grammar.proofs.reading.read_text.Goals as goal

pub read_with-requires : goal.read_with-requires
read_with-requires c =
    let g = c.grammar_of_texts in (
      is_ll1_by g.result language_table g.ensures.flat g.ensures.rules g.ensures.table language_is_ll1,
      has_classes_by g.result g.ensures.rules,
    )
