use Rattle.std.proofs.Common.{true, false, pos}
use Rattle.num_theory.specs.declared.number.Number.TheVariants.{Exact}
use Rattle.cell_rows.proofs.Ordering.{placed_alone, placed_first, placed_later, before_is}
use Rattle.cell_rows.proofs.order.+insert.Goals as goal

pub returns-then-marks-lt2-clause-placed : goal.returns-then-marks-lt2-clause-placed
returns-then-marks-lt2-clause-placed t c = λ p ps h. placed_alone c.args.cells.now.0 p ps c.args.marks.now c.if-marks-lt2.true h

pub returns-then-before-clause-placed : goal.returns-then-before-clause-placed
returns-then-before-clause-placed t c = λ p ps h.
    placed_first c.args.cells.now.0 p ps c.args.marks.now (Exact (pos 0), 0)
    (before_is c.args.cells.now.0 c.args.marks.now (Exact (pos 0), 0) c.args.scratch.now c.before-2.result true c.requires c.if-before.true c.before-2.ensures.order) h

pub returns-clause-placed : goal.returns-clause-placed
returns-clause-placed t c = λ p ps h.
    placed_later c.args.cells.now.0 p ps c.args.marks.now (Exact (pos 0), 0) c.insert.new.marks c.if-marks-lt2.false
    (before_is c.args.cells.now.0 c.args.marks.now (Exact (pos 0), 0) c.args.scratch.now c.before-2.result false c.requires c.if-before.false c.before-2.ensures.order)
    c.insert.ensures.placed h
