use Rattle.std.proofs.Common.{pos}
use Rattle.num_theory.specs.declared.number.Number.TheVariants.{Exact}
use Rattle.cell_rows.proofs.Merging.{moved}
use Rattle.cell_rows.proofs.forms.move_down.Goals as goal

pub loop-k-preserved : goal.loop-k-preserved
loop-k-preserved c = moved c.args.count c.args.more c.loop-k.k c.args.marks.now c.loop-k.marks (Exact (pos 0), 0) c.requires c.loop-k.auto.marks c.loop-k-test.true c.loop-k.invariant
