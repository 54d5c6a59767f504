use Rattle.std.proofs.Common.{◌++◌, List, length-take, length-append, arith, take, drop}
use Rattle.cell_rows.specs.Forms.{Mark}
use Rattle.cell_rows.proofs.Ordering.{shown_stand}
use Rattle.cell_rows.proofs.order.shown.Goals as goal

pub returns-clause-shown : goal.returns-clause-shown
returns-clause-shown c = λ ps n h.
    let kept : List Mark = c.drop_zeros-kept.new.marks in
    let left = c.drop_zeros-kept.result in
    let rest : List Mark = drop c.args.count c.args.marks.now in
    let few = c.drop_zeros-kept.ensures.few in
    let same = c.drop_zeros-kept.auto.marks in
    let size = c.in_text_order.auto.marks in
    shown_stand c.args.cells.now.0 ps (take c.args.count c.args.marks.now) kept c.in_text_order.new.marks left rest (drop left (kept ++ rest)) n c.drop_zeros-kept.ensures.kept h c.in_text_order.ensures.ordered
    (omega (arith, few, same)) (omega (arith, size, few, same, length-take left (kept ++ rest), length-append kept rest))
