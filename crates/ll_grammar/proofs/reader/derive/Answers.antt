use Rattle.std.proofs.Common.{List, ◌∷◌, take, get_or, refl, ap, ◌∙◌}
use Rattle.std.proofs.lemmas.Bool.Decides.{when_true, when_false}
use Rattle.ll_grammar.specs.Grammar.{Symbol, Nonterminal}
use Rattle.ll_grammar.specs.declared.reader.Settled.TheVariants as settled
use Rattle.ll_grammar.proofs.Turns.{look_at, settled_as, starts, one_more, refuse, all_words, read_all, refuse_stuck, refuse_word}
use Rattle.ll_grammar.proofs.reader.derive.Goals as goal

pub loop-place-init : goal.loop-place-init
loop-place-init v c =
    starts c.args.grammar.now v.certificate c.requires c.new-moves.result.items c.push.new.self c.new-moves.ensures.items
    (c.in_ok-push.ensures ∙ ap (λ (y : List Symbol). Nonterminal c.args.grammar.now.start ∷ y) c.new-stack.ensures)

pub returns-then-not-branch-clause-refused : goal.returns-then-not-branch-clause-refused
returns-then-not-branch-clause-refused v c =
    refuse c.args.grammar.now v.certificate c.requires c.args.classes.now c.loop-place.place (get_or c.args.classes.now c.loop-place.place 0) c.take.new.moves.items c.loop-place-test.true refl
    (when_false _ _ c.if-not-branch.true (c.in_ok-take.ensures (take c.loop-place.place c.args.classes.now) c.loop-place.invariant))

pub loop-place-preserved : goal.loop-place-preserved
loop-place-preserved v c =
    one_more c.args.grammar.now v.certificate c.args.classes.now c.loop-place.place (get_or c.args.classes.now c.loop-place.place 0) c.take.new.moves.items c.take.new.stack c.loop-place-test.true refl
    (when_true _ _ c.if-not-branch.false (c.in_ok-take.ensures (take c.loop-place.place c.args.classes.now) c.loop-place.invariant))

pub returns-in-Nothing-clause-read : goal.returns-in-Nothing-clause-read
returns-in-Nothing-clause-read v c =
    let g = c.args.grammar.now in
    let all = all_words g v.certificate c.args.classes.now c.loop-place.place c.loop-place.moves.items c.loop-place.stack c.loop-place-test.false c.loop-place.invariant in
    read_all g v.certificate c.args.classes.now c.settle.new.moves.items
    (settled_as g v.certificate c.args.classes.now g.end_mark c.settle.new.moves.items c.settle.new.stack c.in_ok-settle.field-0 settled.Nothing c.in-Nothing.is
    (c.in_ok-settle.ensures c.args.classes.now (look_at g v.certificate c.args.classes.now c.loop-place.moves.items c.loop-place.stack g.end_mark all)))

pub returns-in-Terminal-clause-refused : goal.returns-in-Terminal-clause-refused
returns-in-Terminal-clause-refused v c =
    let g = c.args.grammar.now in
    let all = all_words g v.certificate c.args.classes.now c.loop-place.place c.loop-place.moves.items c.loop-place.stack c.loop-place-test.false c.loop-place.invariant in
    refuse_word g v.certificate c.requires c.args.classes.now c.settle.new.moves.items c.settle.new.stack c.in-Terminal.field-0
    (settled_as g v.certificate c.args.classes.now g.end_mark c.settle.new.moves.items c.settle.new.stack c.in_ok-settle.field-0 (settled.Terminal c.in-Terminal.field-0) c.in-Terminal.is
    (c.in_ok-settle.ensures c.args.classes.now (look_at g v.certificate c.args.classes.now c.loop-place.moves.items c.loop-place.stack g.end_mark all)))

pub returns-clause-refused : goal.returns-clause-refused
returns-clause-refused v c =
    let g = c.args.grammar.now in
    let all = all_words g v.certificate c.args.classes.now c.loop-place.place c.loop-place.moves.items c.loop-place.stack c.loop-place-test.false c.loop-place.invariant in
    refuse_stuck g v.certificate c.requires c.args.classes.now c.settle.new.moves.items
    (settled_as g v.certificate c.args.classes.now g.end_mark c.settle.new.moves.items c.settle.new.stack c.in_ok-settle.field-0 settled.Stuck c.in-Stuck.is
    (c.in_ok-settle.ensures c.args.classes.now (look_at g v.certificate c.args.classes.now c.loop-place.moves.items c.loop-place.stack g.end_mark all)))
