use Rattle.std.proofs.Common.{pos, arith}
use Rattle.num_theory.specs.declared.number.Number.TheVariants.{Exact}
use Rattle.cell_rows.proofs.Marks.{marks_counted, passes, position_inside}
use Rattle.cell_rows.proofs.forms.place_of.Goals as goal

pub returns-then-same-clause-first : goal.returns-then-same-clause-first
returns-then-same-clause-first c = λ t ps s h.
    (passes c.args.cells.now.0 t ps c.args.marks.now h c.loop-k.k c.loop-k-test.true (Exact (pos 0), 0) c.same.result (λ u g. c.same.ensures t u s g) (c.loop-k.invariant t ps s h)).0 c.if-same.true

pub loop-k-preserved : goal.loop-k-preserved
loop-k-preserved c = λ t ps s h.
    (passes c.args.cells.now.0 t ps c.args.marks.now h c.loop-k.k c.loop-k-test.true (Exact (pos 0), 0) c.same.result (λ u g. c.same.ensures t u s g) (c.loop-k.invariant t ps s h)).1 c.if-same.false

pub returns-clause-first : goal.returns-clause-first
returns-clause-first c = λ t ps s h.
    omega (arith, c.loop-k.invariant t ps s h, c.loop-k-test.false, position_inside c.args.cells.now.0 t ps, marks_counted c.args.cells.now.0 ps c.args.marks.now h)
