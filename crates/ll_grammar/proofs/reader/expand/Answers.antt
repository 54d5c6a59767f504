use Rattle.std.proofs.Common.{◌<◌, List, [], ◌∷◌, ◌++◌, Some, sym, subst}
use Rattle.ll_grammar.specs.Grammar.{Symbol, Nonterminal, Move, Expand}
use Rattle.ll_grammar.specs.Predictive.{cost}
use Rattle.ll_grammar.specs.Reader.{Stands, rules_of, table_of}
use Rattle.ll_grammar.proofs.Predicts.{predictive, expand_step}
use Rattle.ll_grammar.proofs.Viable.{cheaper}
use Rattle.ll_grammar.proofs.reader.expand.Goals as goal

pub returns-in_ok-push_all-in-Some-clause-expanded : goal.returns-in_ok-push_all-in-Some-clause-expanded
returns-in_ok-push_all-in-Some-clause-expanded v c =
    λ done s.
    let g = c.args.grammar.now in
    let P : List Move → Type 0 = λ y. Stands g v.certificate done y c.push_all.new.stack (Some c.args.class) in
    let Q : List Symbol → Type 0 = λ y. Stands g v.certificate done (c.args.moves.now.items ++ Expand c.args.part c.in-Some.place ∷ []) y (Some c.args.class) in
    subst P (sym c.in_ok-push-in-Some.ensures.items)
    (subst Q (sym c.in_ok-push_all-in-Some.ensures)
    (expand_step (rules_of g) (table_of g v.certificate) (predictive (rules_of g) (table_of g v.certificate) c.requires.decides) done c.args.moves.now.items c.args.part c.args.stack.now c.args.class c.in-Some.place c.in-Some.right.now c.in-Some.ensures.spells c.in-Some.ensures.chosen s))

pub returns-in_ok-push_all-in-Some-clause-cheaper : goal.returns-in_ok-push_all-in-Some-clause-cheaper
returns-in_ok-push_all-in-Some-clause-cheaper v c =
    let g = c.args.grammar.now in
    let P : List Symbol → Type 0 = λ y. cost (table_of g v.certificate) y < cost (table_of g v.certificate) (Nonterminal c.args.part ∷ c.args.stack.now) in
    subst P (sym c.in_ok-push_all-in-Some.ensures)
    (cheaper (rules_of g) (table_of g v.certificate) (predictive (rules_of g) (table_of g v.certificate) c.requires.decides) c.args.part c.in-Some.place c.in-Some.right.now c.args.stack.now c.in-Some.ensures.spells)
