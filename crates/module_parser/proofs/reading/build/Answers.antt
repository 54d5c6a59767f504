use Rattle.std.proofs.Common.{◌≡◌, ◌+◌, drop, ◌∙◌}
use Rattle.ll_grammar.specs.declared.form.Move.TheVariants.{Shift}
use Rattle.ll_grammar.specs.Grammar.{built}
use Rattle.expr_parser.specs.Built.{no_token}
use Rattle.module_parser.specs.Stacks.{outset}
use Rattle.module_parser.specs.Spelling.{act_by, files}
use Rattle.module_parser.proofs.Moves.{empty, moved, on_act, on_expand, on_shift, past_end}
use Rattle.module_parser.proofs.reading.build.Goals as goal
use Rattle.module_parser.proofs.reading.build.Goals.{in-Shift+in-Some, in-Shift+in_default, in-Expand, in-Act+in_ok-act_by-in-Act}

pub loop-step-preserved : goal.loop-step-preserved
loop-step-preserved c =
    let moves = c.args.moves.now in
    let i = c.loop-step.step-index in
    let left = c.loop-step.left.now in
    let last = c.loop-step.last.now in
    let state = c.loop-step.state in
    let end = built files moves c.args.tokens.now (record { last = no_token; state = outset }) in
    let l = c.loop-step-test.true in
    let h = c.loop-step.invariant in
    elim c.match-step.branch [
      | in-Shift+in-Some w ↦
          let token = w.in-Some.token.now in
          let rest = w.in-Some.after.now in
          let a : c.match-step.left.now ≡ rest = cc in
          let b : c.match-step.last.now ≡ token = cc in
          moved files (drop (i + 1) moves) end rest c.match-step.left.now token c.match-step.last.now state c.match-step.state a b w.state-is
          (on_shift files moves i Shift left rest token (record { last = last; state = state }) end l w.in-Shift.is w.in-Some.ensures.cases.0 h)
      | in-Shift+in_default w ↦
          let a : c.match-step.left.now ≡ left = cc in
          let b : c.match-step.last.now ≡ last = cc in
          moved files (drop (i + 1) moves) end left c.match-step.left.now last c.match-step.last.now state c.match-step.state a b w.state-is
          (past_end files moves i Shift left (record { last = last; state = state }) end l w.in-Shift.is (empty left w.in_default.ensures.cases) h)
      | in-Expand w ↦
          let a : c.match-step.left.now ≡ left = cc in
          let b : c.match-step.last.now ≡ last = cc in
          moved files (drop (i + 1) moves) end left c.match-step.left.now last c.match-step.last.now state c.match-step.state a b w.state-is
          (on_expand files moves i w.in-Expand.field-0 w.in-Expand.field-1 Shift left (record { last = last; state = state }) end l w.in-Expand.is h)
      | in-Act+in_ok-act_by-in-Act w ↦
          let a : c.match-step.left.now ≡ left = cc in
          let b : c.match-step.last.now ≡ last = cc in
          let d : w.act_by.new.state ≡ act_by w.in-Act.number last state = w.in_ok-act_by-in-Act.ensures in
          moved files (drop (i + 1) moves) end left c.match-step.left.now last c.match-step.last.now (act_by w.in-Act.number last state) c.match-step.state a b (w.state-is ∙ d)
          (on_act files moves i w.in-Act.number Shift left (record { last = last; state = state }) end l w.in-Act.is h)
    ]
