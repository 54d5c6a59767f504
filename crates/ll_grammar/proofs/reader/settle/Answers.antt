use Rattle.std.proofs.Common.{Some}
use Rattle.std.proofs.lemmas.Bool.Decides.{when_true, when_false}
use Rattle.ll_grammar.specs.Grammar.{Terminal, Nonterminal, Action}
use Rattle.ll_grammar.proofs.Turns.{stand_on, stand_empty, no_way, acted_on}
use Rattle.ll_grammar.proofs.reader.settle.Goals as goal

pub returns-in-Terminal : goal.returns-in-Terminal
returns-in-Terminal v c =
    λ done s. stand_on c.args.grammar.now v.certificate done c.loop-symbol.moves.items c.loop-symbol.stack c.pop.new.self c.in-Some.symbol (Terminal c.in-Terminal.word) (Some c.args.class) c.in-Some.ensures c.in-Terminal.is (c.loop-symbol.invariant done s)

pub returns-then-not-branch : goal.returns-then-not-branch
returns-then-not-branch v c =
    λ done s. no_way c.args.grammar.now v.certificate c.requires done c.loop-symbol.moves.items c.expand.new.moves.items c.in-Nonterminal.part c.args.class c.pop.new.self
    (when_false _ _ c.if-not-branch.true c.in_ok-expand-in-Nonterminal.ensures.expanded)
    (stand_on c.args.grammar.now v.certificate done c.loop-symbol.moves.items c.loop-symbol.stack c.pop.new.self c.in-Some.symbol (Nonterminal c.in-Nonterminal.part) (Some c.args.class) c.in-Some.ensures c.in-Nonterminal.is (c.loop-symbol.invariant done s))

pub loop-symbol-preserved : goal.loop-symbol-preserved
loop-symbol-preserved v c =
    λ done s. when_true _ _ c.if-not-branch.false c.in_ok-expand-in-Nonterminal.ensures.expanded done
    (stand_on c.args.grammar.now v.certificate done c.loop-symbol.moves.items c.loop-symbol.stack c.pop.new.self c.in-Some.symbol (Nonterminal c.in-Nonterminal.part) (Some c.args.class) c.in-Some.ensures c.in-Nonterminal.is (c.loop-symbol.invariant done s))

pub returns : goal.returns
returns v c =
    λ done s. stand_empty c.args.grammar.now v.certificate done c.loop-symbol.moves.items c.loop-symbol.stack (Some c.args.class) c.in_default.ensures.0 (c.loop-symbol.invariant done s)

pub loop-symbol-preserved-in_ok-push-in-Action : goal.loop-symbol-preserved-in_ok-push-in-Action
loop-symbol-preserved-in_ok-push-in-Action v c =
    λ done s. acted_on c.args.grammar.now v.certificate done c.loop-symbol.moves.items c.push.new.self.items c.in-Action.action c.args.class c.pop.new.self c.in_ok-push-in-Action.ensures.items
    (stand_on c.args.grammar.now v.certificate done c.loop-symbol.moves.items c.loop-symbol.stack c.pop.new.self c.in-Some.symbol (Action c.in-Action.action) (Some c.args.class) c.in-Some.ensures c.in-Action.is (c.loop-symbol.invariant done s))
