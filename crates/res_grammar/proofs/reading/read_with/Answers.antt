use Rattle.std.proofs.Common.{List, take, sym, ap, ◌∙◌, subst}
use Rattle.ll_grammar.specs.Reader.{rules_of, table_of}
use Rattle.res_grammar.specs.Classes.{class_of, classes_of}
use Rattle.res_grammar.specs.Faults.{AllPass, StopsAt}
use Rattle.res_grammar.proofs.Walks.{take_map}
use Rattle.res_grammar.proofs.Refusals.{read_by, refused_by, read_starts, read_counted, refused_classes, stopped, stopped_before, at_some, at_none}
use Rattle.res_lexer.specs.declared.token.Token.{Token}
use Rattle.res_grammar.proofs.reading.read_with.Goals as goal

pub walk-requires-clause-counted : goal.walk-requires-clause-counted
walk-requires-clause-counted v c =
    read_counted (rules_of c.args.grammar.now) (table_of c.args.grammar.now v.certificate) c.requires.0.decides c.requires.1 c.args.tokens.now c.deref-in-Read.result.now
    (read_by (rules_of c.args.grammar.now) (table_of c.args.grammar.now v.certificate) c.requires.0.decides c.requires.1 c.in_ok-moves.field-0 c.in-Read.moves c.deref-in-Read.result.now c.deref.result.now c.in_ok-classes.classes.items c.args.tokens.now c.in-Read.is c.deref-in-Read.ensures.value c.deref.ensures.value c.in_ok-classes.ensures c.in_ok-moves.ensures.read)

pub returns-in-Read-clause-refused : goal.returns-in-Read-clause-refused
returns-in-Read-clause-refused v c =
    let moves = c.deref-in-Read.result.now in
    let ts = c.args.tokens.now in
    stopped (rules_of c.args.grammar.now) (table_of c.args.grammar.now v.certificate) c.requires.0.decides c.requires.1 c.laws.ensures moves ts c.in-Some.place c.in-Some.fault
    (read_starts (rules_of c.args.grammar.now) (table_of c.args.grammar.now v.certificate) c.requires.0.decides c.requires.1 ts moves (read_by (rules_of c.args.grammar.now) (table_of c.args.grammar.now v.certificate) c.requires.0.decides c.requires.1 c.in_ok-moves.field-0 c.in-Read.moves moves c.deref.result.now c.in_ok-classes.classes.items ts c.in-Read.is c.deref-in-Read.ensures.value c.deref.ensures.value c.in_ok-classes.ensures c.in_ok-moves.ensures.read))
    (at_some (rules_of c.args.grammar.now) (table_of c.args.grammar.now v.certificate) c.requires.0.decides c.requires.1 c.in_ok-walk-in-Read.field-0 (c.in-Some.place, c.in-Some.fault) (AllPass moves ts) (λ stop. StopsAt moves ts stop.0 stop.1) c.in-Some.is c.in_ok-walk-in-Read.ensures)

pub returns-in-None-2-clause-refused : goal.returns-in-None-2-clause-refused
returns-in-None-2-clause-refused v c =
    let moves = c.deref-in-Refused.result.now in
    let ts = c.args.tokens.now in
    let part = c.before-in-Refused-2.result.now in
    let P : List Token → Type 0 = λ z. AllPass moves z in
    refused_classes (rules_of c.args.grammar.now) (table_of c.args.grammar.now v.certificate) c.requires.0.decides c.requires.1 c.laws.ensures ts c.in-Refused.place moves
    (refused_by (rules_of c.args.grammar.now) (table_of c.args.grammar.now v.certificate) c.requires.0.decides c.requires.1 c.in_ok-moves.field-0 c.in-Refused.place c.in-Refused.moves moves c.deref.result.now c.in_ok-classes.classes.items ts c.in-Refused.is c.deref-in-Refused.ensures.value c.deref.ensures.value c.in_ok-classes.ensures c.in_ok-moves.ensures.refused)
    (subst P c.before-in-Refused-2.ensures
    (at_none (rules_of c.args.grammar.now) (table_of c.args.grammar.now v.certificate) c.requires.0.decides c.requires.1 c.in_ok-walk-in-Refused.field-0 (AllPass moves part) (λ stop. StopsAt moves part stop.0 stop.1) c.in-None-2.is c.in_ok-walk-in-Refused.ensures))

pub returns-clause-refused : goal.returns-clause-refused
returns-clause-refused v c =
    let moves = c.deref-in-Refused.result.now in
    let ts = c.args.tokens.now in
    let part = c.before-in-Refused-2.result.now in
    stopped_before (rules_of c.args.grammar.now) (table_of c.args.grammar.now v.certificate) c.requires.0.decides c.requires.1 c.laws.ensures moves ts part c.in-Refused.place c.in-Some-2.first c.in-Some-2.fault c.before-in-Refused-2.ensures
    (refused_by (rules_of c.args.grammar.now) (table_of c.args.grammar.now v.certificate) c.requires.0.decides c.requires.1 c.in_ok-moves.field-0 c.in-Refused.place c.in-Refused.moves moves c.deref.result.now c.in_ok-classes.classes.items ts c.in-Refused.is c.deref-in-Refused.ensures.value c.deref.ensures.value c.in_ok-classes.ensures c.in_ok-moves.ensures.refused)
    (at_some (rules_of c.args.grammar.now) (table_of c.args.grammar.now v.certificate) c.requires.0.decides c.requires.1 c.in_ok-walk-in-Refused.field-0 (c.in-Some-2.first, c.in-Some-2.fault) (AllPass moves part) (λ stop. StopsAt moves part stop.0 stop.1) c.in-Some-2.is c.in_ok-walk-in-Refused.ensures)

pub walk-requires-in-Refused-clause-classed : goal.walk-requires-in-Refused-clause-classed
walk-requires-in-Refused-clause-classed v c =
    c.before-in-Refused.ensures
    ∙ ap (take c.in-Refused.place) (c.deref-in-Refused-2.ensures.value ∙ c.in_ok-classes.ensures)
    ∙ take_map (λ t. class_of t.kind) c.in-Refused.place c.args.tokens.now
    ∙ ap classes_of (sym c.before-in-Refused-2.ensures)
