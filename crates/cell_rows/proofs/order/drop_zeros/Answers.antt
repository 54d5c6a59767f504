use Rattle.std.proofs.Common.{◌<◌, ◌∙◌, sym, ap, not, length, get_or, pos, arith}
use Rattle.std.proofs.lemmas.List.{get_or_default}
use Rattle.std.proofs.lemmas.List.Filters.{FiltersInPlace-more_no, FiltersInPlace-more_set}
use Rattle.num_theory.specs.declared.number.Number.TheVariants.{Exact}
use Rattle.cell_rows.specs.Forms.{Mark}
use Rattle.cell_rows.proofs.order.drop_zeros.Goals as goal
use Rattle.cell_rows.proofs.order.drop_zeros.Goals.{then-not-is_zero, else-not-is_zero}

pub loop-k-preserved : goal.loop-k-preserved
loop-k-preserved c =
    let read : Mark = get_or c.loop-k.marks c.loop-k.k (Exact (pos 0), 0) in
    let inside : c.loop-k.k < length c.loop-k.marks = omega arith in
    let is = c.is_zero.ensures in
    let there = get_or_default c.loop-k.marks c.loop-k.k (Exact (pos 0), 0) read inside in
    elim c.if-not-is_zero.branch [
      | then-not-is_zero w ↦ rw (w.marks-is, w.kept-is) (FiltersInPlace-more_set c.loop-k.invariant inside (ap not (sym is ∙ w.if-not-is_zero.true)) there)
      | else-not-is_zero w ↦ rw (w.marks-is, w.kept-is) (FiltersInPlace-more_no c.loop-k.invariant inside (ap not (sym is ∙ w.if-not-is_zero.false)) there)
    ]
