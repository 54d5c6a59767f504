use Rattle.std.proofs.Common.{◌∙◌, sym, ap, arith}
use Rattle.linear_prover.specs.Elimination.{Refuted}
use Rattle.linear_prover.proofs.Steps.{with_row-full, with_row-contradiction, with_row-more}
use Rattle.linear_prover.proofs.rows_in_hand.put.Goals as goal

pub returns-then-len-ge-MOST_ROWS : goal.returns-then-len-ge-MOST_ROWS
returns-then-len-ge-MOST_ROWS c = with_row-full c.args.n c.args.c c.args.hand.now.rows.items c.args.hand.now.made.items c.args.row (omega arith)

pub returns-then-contradicts : goal.returns-then-contradicts
returns-then-contradicts c =
    with_row-contradiction c.args.n c.args.c c.args.hand.now.rows.items c.args.hand.now.made.items c.args.row (omega arith) (cc)
    ∙ ap Refuted (sym c.in_ok-push.ensures)

pub returns : goal.returns
returns c =
    let step = with_row-more c.args.n c.args.c c.args.hand.now.rows.items c.args.hand.now.made.items c.args.row (omega arith) (cc) in
    cc (step, c.in_ok-push-2.ensures, c.in_ok-push-3.ensures)
