use Rattle.std.proofs.Common.{sym}
use Rattle.std.proofs.lemmas.Bool.{eqb-true}
use Rattle.cell_rules.proofs.Chained.{cat_sides, no_cat}
use Rattle.cell_rules.proofs.Looked.{node_at}
use Rattle.cell_rules.proofs.spine.sides.Goals as goal

pub returns-then-not-is-clause-sides : goal.returns-then-not-is-clause-sides
returns-then-not-is-clause-sides c = λ t h.
    let n = node_at c.standing_opens.ensures c.args.cells.now.0 t c.args.p c.in_ok-cell.cell (sym c.in_ok-cell.ensures) h in
    no_cat t c.in_ok-cell.cell.form n.form_is (sym c.if-not-is.ensures)

pub returns-clause-sides : goal.returns-clause-sides
returns-clause-sides c = λ t h.
    (cat_sides c.two_opens.ensures c.args.cells.now.0 t c.args.p c.in_ok-cell.cell (sym c.in_ok-cell.ensures) (eqb-true c.in_ok-cell.cell.form 13 (sym c.if-not-is.ensures)) h).1
