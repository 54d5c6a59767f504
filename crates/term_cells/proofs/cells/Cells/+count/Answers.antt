use Rattle.std.proofs.Common.{sym, arith}
use Rattle.term_cells.proofs.Apart.{holds, fails}
use Rattle.term_cells.proofs.Counted.{no_node, tuple_counted, few_counted, first_too_large, one_counted, second_too_large, two_counted, three_counted, end_counted, part_too_large, rest_counted}
use Rattle.term_cells.proofs.Comparing.{parts_inside, parts_below}
use Rattle.term_cells.proofs.Openings.{not_there}
use Rattle.term_cells.proofs.cells.Cells.+count.Goals as goal

pub count-returns-in_err-number : goal.count-returns-in_err-number
count-returns-in_err-number m c = λ t h. rw c.from_residual.ensures (no_node c.args.number c.in_err-number.ensures t)

pub count-returns-in_err-cell : goal.count-returns-in_err-cell
count-returns-in_err-cell m c = λ t h. absurd (not_there c.args.self.now.0 t c.args.p (sym c.in_err-cell.ensures) h)

pub count-returns-then-is : goal.count-returns-then-is
count-returns-then-is m c = λ t h.
    tuple_counted c.args.self.now.0 t c.args.p c.in_ok-cell.cell (sym c.in_ok-cell.ensures) h c.args.number c.in_ok-number.number (omega (arith, c.in_ok-number.ensures)) c.count_parts.result
    (holds c.in_ok-cell.cell.form 16 c.if-is.ensures) c.count_parts.ensures

pub count-returns : goal.count-returns
count-returns m c = λ t h.
    few_counted c.args.self.now.0 t c.args.p c.in_ok-cell.cell (sym c.in_ok-cell.ensures) h c.args.number c.in_ok-number.number (omega (arith, c.in_ok-number.ensures)) c.count_children.result
    (fails c.in_ok-cell.cell.form 16 c.if-is.ensures) c.arity.result c.arity.ensures c.count_children.ensures

pub count_children-returns-in_err-number : goal.count_children-returns-in_err-number
count_children-returns-in_err-number m c = λ ts l h.
    rw c.from_residual.ensures (first_too_large c.args.self.now.0 c.args.cell c.args.place c.args.number c.in_err-number.ensures c.args.n c.if-n-eq0.false ts l h)

pub count_children-returns-then-n-eq1 : goal.count_children-returns-then-n-eq1
count_children-returns-then-n-eq1 m c = λ ts l h.
    one_counted c.args.self.now.0 c.args.cell c.args.place c.args.number c.in_ok-number.number c.in_ok-number.ensures c.args.n c.if-n-eq1.true ts l h

pub count_children-returns-in_err-number-2 : goal.count_children-returns-in_err-number-2
count_children-returns-in_err-number-2 m c = λ ts l h.
    rw c.from_residual-in_err-number-2.ensures
    (second_too_large c.args.self.now.0 c.args.cell c.args.place c.args.number c.in_ok-number.number c.in_ok-number.ensures c.in_err-number-2.ensures c.args.n c.if-n-eq0.false c.if-n-eq1.false ts l h)

pub count_children-returns-then-n-eq2 : goal.count_children-returns-then-n-eq2
count_children-returns-then-n-eq2 m c = λ ts l h.
    two_counted c.args.self.now.0 c.args.cell c.args.place c.args.number c.in_ok-number.number c.in_ok-number.ensures c.in_ok-number-2.number c.in_ok-number-2.ensures c.args.n c.if-n-eq2.true ts l h

pub count_children-returns : goal.count_children-returns
count_children-returns m c = λ ts l h.
    three_counted c.args.self.now.0 c.args.cell c.args.place c.args.number c.in_ok-number.number c.in_ok-number.ensures c.in_ok-number-2.number c.in_ok-number-2.ensures c.count_below-3.result c.count_below-3.ensures
    c.args.n c.if-n-eq0.false c.if-n-eq1.false c.if-n-eq2.false ts l h

pub count_parts-returns-then-p-limit : goal.count_parts-returns-then-p-limit
count_parts-returns-then-p-limit m c = λ ts h.
    let below = parts_below c.args.self.now.0 _ c.args.p c.args.limit h in
    absurd (omega arith)

pub count_parts-returns-in_err-cell : goal.count_parts-returns-in_err-cell
count_parts-returns-in_err-cell m c = λ ts h.
    let d = parts_inside c.args.self.now.0 ts c.args.p c.args.limit h in
    let e = d.1 in
    absurd (cc c.in_err-cell.ensures)

pub count_parts-returns-then-not-is_link : goal.count_parts-returns-then-not-is_link
count_parts-returns-then-not-is_link m c = λ ts h.
    end_counted c.args.self.now.0 c.args.p c.args.limit c.args.number c.in_ok-cell.cell (sym c.in_ok-cell.ensures) (fails c.in_ok-cell.cell.form 27 c.if-not-is_link.ensures) ts h

pub count_parts-returns-in_err-number : goal.count_parts-returns-in_err-number
count_parts-returns-in_err-number m c = λ ts h.
    rw c.from_residual-in_err-number.ensures
    (part_too_large c.args.self.now.0 c.args.p c.args.limit c.args.number c.in_ok-cell.cell (sym c.in_ok-cell.ensures) (holds c.in_ok-cell.cell.form 27 c.if-not-is_link.ensures) c.in_err-number.ensures ts h)

pub count_parts-returns : goal.count_parts-returns
count_parts-returns m c = λ ts h.
    rest_counted c.args.self.now.0 c.args.p c.args.limit c.args.number c.in_ok-cell.cell (sym c.in_ok-cell.ensures) (holds c.in_ok-cell.cell.form 27 c.if-not-is_link.ensures) c.in_ok-number.number c.in_ok-number.ensures
    c.count_parts.result c.count_parts.ensures ts h
