use Rattle.std.proofs.Common.{◌+◌, take, sym, subst, ◌∙◌, arith}
use Rattle.ll_grammar.specs.declared.form.Move.TheVariants.{Shift}
use Rattle.res_lexer.specs.declared.token.Token.{Token}
use Rattle.res_grammar.specs.Faults.{Passed, Refuses, acted}
use Rattle.res_grammar.proofs.Walks.{stops_at, on_shift, on_expand, on_act, no_more, all_made, moved_to}
use Rattle.res_grammar.proofs.reading.walk.Goals as goal
use Rattle.res_grammar.proofs.reading.walk.Goals.{in-Shift+then-place-tokens+in_default, in-Shift+else-place-tokens, in-Expand, in-Act+in_ok-act-in-Act}

pub returns-in-Some : goal.returns-in-Some
returns-in-Some c =
    let found = c.index-tokens-place in
    let P : Token → Type 0 = λ z. Refuses c.in-Some.fault z c.loop-step.watches in
    stops_at c.laws.ensures c.args.moves.now c.args.tokens.now c.loop-step.step-index c.loop-step.place Shift found.result c.in-Some.fault c.loop-step.watches c.loop-step-test.true c.if-place-tokens.true (sym c.in-Shift.is) (subst P found.is c.in-Some.ensures) c.loop-step.invariant.1

pub returns : goal.returns
returns c =
    all_made c.laws.ensures c.args.moves.now c.args.tokens.now c.loop-step.step-index c.loop-step.place c.loop-step.watches c.loop-step-test.false c.requires.counted c.loop-step.invariant.0 c.loop-step.invariant.1

pub loop-step-preserved : goal.loop-step-preserved
loop-step-preserved c =
    let moves = c.args.moves.now in
    let ts = c.args.tokens.now in
    let i = c.loop-step.step-index in
    let at = c.loop-step.place in
    let s = c.loop-step.watches in
    let l = c.loop-step-test.true in
    let h = c.loop-step.invariant in
    elim c.match-step.branch [
      | in-Shift+then-place-tokens+in_default w ↦
          let P : Token → Type 0 = λ z. Passed z s w.shift.new.self in
          moved_to (take (i + 1) moves) ts (at + 1) c.match-step.place w.shift.new.self c.match-step.watches w.place-is w.watches-is (omega arith)
          (on_shift c.laws.ensures moves ts i at Shift w.index-tokens-place.result s w.shift.new.self l w.if-place-tokens.true w.in-Shift.is (subst P w.index-tokens-place.is w.in_default.ensures) h.1)
      | in-Shift+else-place-tokens w ↦ absurd (no_more c.laws.ensures moves ts i at Shift s l c.requires.counted w.if-place-tokens.false h.0 w.in-Shift.is h.1)
      | in-Expand w ↦
          moved_to (take (i + 1) moves) ts at c.match-step.place s c.match-step.watches w.place-is w.watches-is h.0
          (on_expand c.laws.ensures moves (take at ts) i w.in-Expand.field-0 w.in-Expand.field-1 Shift s l w.in-Expand.is h.1)
      | in-Act+in_ok-act-in-Act w ↦
          moved_to (take (i + 1) moves) ts at c.match-step.place (acted w.in-Act.action s) c.match-step.watches w.place-is (w.watches-is ∙ w.in_ok-act-in-Act.ensures) h.0
          (on_act c.laws.ensures moves (take at ts) i w.in-Act.action Shift s l w.in-Act.is h.1)
    ]
