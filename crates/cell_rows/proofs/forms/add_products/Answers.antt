use Rattle.std.proofs.Common.{pos, drop}
use Rattle.num_theory.specs.declared.number.Number.TheVariants.{Exact}
use Rattle.cell_rows.proofs.Merging.{merges_more, merged}
use Rattle.cell_rows.proofs.forms.add_products.Goals as goal

pub loop-k-preserved : goal.loop-k-preserved
loop-k-preserved c =
    merges_more c.args.cells.now.0 c.args.count c.args.more c.args.marks.now c.requires c.loop-k.k c.loop-k.total c.loop-k-test.true c.loop-k.marks c.loop-k.invariant
    c.add_product-total.result c.add_product-total.new.marks (Exact (pos 0), 0) c.add_product-total.ensures.few c.add_product-total.ensures.rest c.add_product-total.ensures.added

pub returns-clause-added : goal.returns-clause-added
returns-clause-added c = λ ps qs h g.
    merged c.args.cells.now.0 ps qs c.loop-k.k c.loop-k.total c.args.more c.loop-k.marks (drop c.args.count c.args.marks.now) (c.loop-k.invariant.left ps qs h g) g c.loop-k-test.false
