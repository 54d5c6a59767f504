use Rattle.std.proofs.Common.{◌∙◌, ap, [], ◌∷◌, ◌++◌}
use Rattle.linear_prover.proofs.Turning.{numbered_turn}
use Rattle.linear_prover.proofs.elimination.number_rows.Goals as goal

pub loop-number-preserved : goal.loop-number-preserved
loop-number-preserved c =
    numbered_turn c.args.rows.now c.loop-number.number c.index-rows-number.result c.loop-number.numbered.items c.push.new.items.items c.loop-number-test.true c.loop-number.invariant
    (c.in_ok-push.ensures ∙ ap (λ row. c.loop-number.numbered.items ++ (c.loop-number.number, row) ∷ []) (c.in_ok-copied.ensures ∙ c.index-rows-number.is))
