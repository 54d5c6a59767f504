use Rattle.std.proofs.Common.{◌-◌, sym, ⊎_elim, arith}
use Rattle.term_cells.proofs.Apart.{holds, fails}
use Rattle.term_cells.proofs.Comparing.{parts_inside}
use Rattle.term_cells.proofs.Kinded.{no_more_parts, first_part, later_part, parts_inside_list}
use Rattle.term_cells.proofs.cells.Cells.+part.Goals as goal

pub returns-in_err-cell-clause-part : goal.returns-in_err-cell-clause-part
returns-in_err-cell-clause-part m c = λ limit ts h.
    let d = parts_inside c.args.self.now.0 ts c.args.list limit h in
    let e = d.1 in
    absurd (cc c.in_err-cell.ensures)

pub returns-then-not-is_link-clause-part : goal.returns-then-not-is_link-clause-part
returns-then-not-is_link-clause-part m c = λ limit ts.
    no_more_parts c.args.self.now.0 c.args.list limit c.in_ok-cell.cell (sym c.in_ok-cell.ensures) (fails c.in_ok-cell.cell.form 27 c.if-not-is_link.ensures) ts c.args.k

pub returns-then-cell-list-clause-part : goal.returns-then-cell-list-clause-part
returns-then-cell-list-clause-part m c = λ limit ts h.
    let below = parts_inside_list c.args.self.now.0 c.args.list limit c.in_ok-cell.cell (sym c.in_ok-cell.ensures) (holds c.in_ok-cell.cell.form 27 c.if-not-is_link.ensures) ts h in
    absurd (⊎_elim (λ l. omega arith) (λ l. omega arith) c.then-cell-list.either)

pub returns-then-k-eq0-clause-part : goal.returns-then-k-eq0-clause-part
returns-then-k-eq0-clause-part m c = λ limit ts.
    first_part c.args.self.now.0 c.args.list limit c.in_ok-cell.cell (sym c.in_ok-cell.ensures) (holds c.in_ok-cell.cell.form 27 c.if-not-is_link.ensures) ts c.args.k c.if-k-eq0.true

pub returns-clause-part : goal.returns-clause-part
returns-clause-part m c = λ limit ts.
    later_part c.args.self.now.0 c.args.list limit c.in_ok-cell.cell (sym c.in_ok-cell.ensures) (holds c.in_ok-cell.cell.form 27 c.if-not-is_link.ensures) ts c.args.k (c.args.k - 1) c.part.result c.if-k-eq0.false
    (omega (arith, c.if-k-eq0.false)) (c.part.ensures.part c.args.list)
