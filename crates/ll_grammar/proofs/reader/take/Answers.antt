use Rattle.std.proofs.Common.{[], ◌∷◌}
use Rattle.ll_grammar.specs.Grammar.{Terminal}
use Rattle.ll_grammar.specs.declared.reader.Settled.TheVariants as settled
use Rattle.ll_grammar.proofs.Turns.{look_at, settled_as, never_stuck, never_word, never_full, shifted_on, somewhere}
use Rattle.ll_grammar.proofs.reader.take.Goals as goal

pub returns-in_ok-push-in-Terminal : goal.returns-in_ok-push-in-Terminal
returns-in_ok-push-in-Terminal v c =
    λ done s.
    let g = c.args.grammar.now in
    shifted_on g v.certificate done c.settle.new.moves.items c.push.new.self.items c.in-Terminal.word c.args.class c.settle.new.stack c.if-word-class.true c.in_ok-push-in-Terminal.ensures.items
    (settled_as g v.certificate done c.args.class c.settle.new.moves.items c.settle.new.stack c.in_ok-word.field-0 (settled.Terminal c.in-Terminal.word) c.in-Terminal.is
    (c.in_ok-word.ensures done (look_at g v.certificate done c.args.moves.now.items c.args.stack.now c.args.class s)))

pub returns-else-word-class : goal.returns-else-word-class
returns-else-word-class v c =
    λ done s.
    let g = c.args.grammar.now in
    let here = (settled_as g v.certificate done c.args.class c.settle.new.moves.items c.settle.new.stack c.in_ok-word.field-0 (settled.Terminal c.in-Terminal.word) c.in-Terminal.is
    (c.in_ok-word.ensures done (look_at g v.certificate done c.args.moves.now.items c.args.stack.now c.args.class s))) in (
      never_word g v.certificate done c.settle.new.moves.items c.in-Terminal.word c.args.class c.settle.new.stack c.if-word-class.false here,
      somewhere g v.certificate done c.settle.new.moves.items (Terminal c.in-Terminal.word ∷ c.settle.new.stack) c.args.class here,
    )

pub returns-in-Nothing : goal.returns-in-Nothing
returns-in-Nothing v c =
    λ done s.
    let g = c.args.grammar.now in
    let full = (settled_as g v.certificate done c.args.class c.settle.new.moves.items c.settle.new.stack c.in_ok-word.field-0 settled.Nothing c.in-Nothing.is
    (c.in_ok-word.ensures done (look_at g v.certificate done c.args.moves.now.items c.args.stack.now c.args.class s))) in
    (never_full g v.certificate done c.settle.new.moves.items c.args.class full, somewhere g v.certificate done c.settle.new.moves.items [] c.args.class full)

pub returns-in-Stuck : goal.returns-in-Stuck
returns-in-Stuck v c =
    λ done s.
    let g = c.args.grammar.now in
    let stuck = (settled_as g v.certificate done c.args.class c.settle.new.moves.items c.settle.new.stack c.in_ok-word.field-0 settled.Stuck c.in-Stuck.is
    (c.in_ok-word.ensures done (look_at g v.certificate done c.args.moves.now.items c.args.stack.now c.args.class s))) in
    (never_stuck g v.certificate done c.args.class stuck.0, stuck.1)
