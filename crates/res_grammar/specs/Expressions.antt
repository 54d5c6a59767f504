-- The grammar from expressions on.
use Rattle.ll_grammar.specs.Predictive.{Table}
use Rattle.res_grammar.specs.Language.{language_table}
use Rattle.res_grammar.specs.Numbers.{expression_part}

abbrev pub expression_table : Table
expression_table = record language_table { start = expression_part }
