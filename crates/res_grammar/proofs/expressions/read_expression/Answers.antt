use Rattle.std.proofs.Common.{List, take, subst}
use Rattle.res_grammar.specs.Expressions.{expression_table}
use Rattle.res_grammar.specs.Faults.{IsRefusedAt, MatchReading}
use Rattle.res_grammar.specs.Language.{language_rules}
use Rattle.res_grammar.specs.declared.reading.Reading.{Reading}
use Rattle.res_grammar.specs.declared.watches.Fault.{Fault}
use Rattle.res_lexer.specs.declared.token.Token.{Token}
use Rattle.res_grammar.proofs.Predictive.{expressions_are_ll1, language_has_classes}
use Rattle.res_grammar.proofs.OneAnswer.{texts_are_not_refused}
use Rattle.res_grammar.proofs.expressions.read_expression.Goals as goal

pub returns-in-Refused-2-clause-refused : goal.returns-in-Refused-2-clause-refused
returns-in-Refused-2-clause-refused c =
    let ts = c.args.tokens.now in
    let first = c.in-Refused-default-Expected in
    let part = c.before-in-Refused-default-Expected.result.now in
    let P : Reading → Type 0 = λ z. MatchReading z (λ moves. Unit {0}) (λ place fault. IsRefusedAt language_rules expression_table.start ts place fault) in
    let Q : Fault → Type 0 = λ z. IsRefusedAt language_rules expression_table.start ts first.place z in
    let R : Reading → Type 0 = λ z. MatchReading z (λ moves. Unit {0}) (λ place fault. IsRefusedAt language_rules expression_table.start part place fault) in
    let S : List Token → Type 0 = λ z. IsRefusedAt language_rules expression_table.start z c.in-Refused-2.field-0 c.in-Refused-2.field-1 in
    let again = subst S c.before-in-Refused-default-Expected.ensures (subst R c.in-Refused-2.is c.in_ok-moves-in-Refused-default-Expected.ensures.refused) in
    record {
      refused = subst Q first.field-1-is (subst P first.is c.in_ok-moves.ensures.refused);
      none = λ e moves x. texts_are_not_refused language_rules expression_table expressions_are_ll1 language_has_classes c.laws.ensures (take first.place ts) moves c.in-Refused-2.field-0 c.in-Refused-2.field-1 x again;
    }
