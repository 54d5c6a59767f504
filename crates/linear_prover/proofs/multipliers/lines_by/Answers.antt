use Rattle.std.proofs.Common.{◌∙◌, ap, ◌∷◌, [], ◌++◌}
use Rattle.linear_prover.specs.declared.rows_in_hand.Combination.{Combination}
use Rattle.linear_prover.specs.working.Eliminating.{line_by}
use Rattle.linear_prover.proofs.Placing.{lines_turn, lines_skip}
use Rattle.linear_prover.proofs.multipliers.lines_by.Goals as goal
use Rattle.linear_prover.proofs.multipliers.lines_by.Goals.{then-flags-at+in_ok-put, else-flags-at}

none : Combination
none = record { p = 0; i = 0; q = 0; j = 0 }

pub loop-at-preserved : goal.loop-at-preserved
unfolding none
loop-at-preserved c =
    elim c.if-flags-at.branch [
      | then-flags-at+in_ok-put w ↦ lines_turn (λ d. line_by c.args.n c.args.places.now d.1) c.args.n c.loop-at.at c.args.flags.now c.args.made.now none c.loop-at.lines c.if-flags-at.lines
          c.requires.same_length c.loop-at-test.true w.if-flags-at.true c.loop-at.invariant (w.lines-is ∙ (w.in_ok-put.ensures ∙ ap (λ l. c.loop-at.lines ++ l ∷ []) w.line.ensures))
      | else-flags-at w ↦ w.lines-is ∙ lines_skip (λ d. line_by c.args.n c.args.places.now d.1) c.args.n c.loop-at.at c.args.flags.now c.args.made.now none c.loop-at.lines
          c.requires.same_length c.loop-at-test.true w.if-flags-at.false c.loop-at.invariant
    ]
