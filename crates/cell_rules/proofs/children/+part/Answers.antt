use Rattle.std.proofs.Common.{sym, ap, arith, slice_get}
use Rattle.cell_rules.proofs.Linking.{linked, list_cell, no_parts, part_at_first, part_at_next}
use Rattle.cell_rules.proofs.children.+part.Goals as goal

pub returns-in_err-cell : goal.returns-in_err-cell
returns-in_err-cell m c = λ limit ts h.
    let o = list_cell c.parts_open.ensures c.args.cells.now.0 ts c.args.list limit h in
    let e = o.1 in
    absurd (cc c.in_err-cell.ensures)

pub returns-then-not-is_link : goal.returns-then-not-is_link
returns-then-not-is_link m c = λ limit ts h.
    ap (λ us. slice_get us c.args.k) (no_parts c.parts_open.ensures c.args.cells.now.0 c.args.list limit c.in_ok-cell.cell (sym c.in_ok-cell.ensures) c.if-not-is_link.ensures ts h)

pub returns-in-None : goal.returns-in-None
returns-in-None m c = λ limit ts h.
    let l = linked c.parts_open.ensures c.args.cells.now.0 c.args.list limit c.in_ok-cell.cell (sym c.in_ok-cell.ensures) c.if-not-is_link.ensures ts h in
    part_at_first c.args.cells.now.0 ts l.first l.rest c.in_ok-cell.cell.a c.args.k l.parts_are (omega (arith, c.in-None.ensures)) l.first_stands

pub returns-in-Some : goal.returns-in-Some
returns-in-Some m c = λ limit ts h.
    let l = linked c.parts_open.ensures c.args.cells.now.0 c.args.list limit c.in_ok-cell.cell (sym c.in_ok-cell.ensures) c.if-not-is_link.ensures ts h in
    part_at_next c.args.cells.now.0 ts l.first l.rest c.args.k c.in-Some.later c.part.result l.parts_are (omega (arith, c.in-Some.ensures)) (c.part.ensures c.args.list l.rest l.rest_stands)
