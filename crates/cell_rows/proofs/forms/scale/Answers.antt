use Rattle.std.proofs.Common.{◌≡◌, ◌∙◌, ap, pos, get_or, set, arith}
use Rattle.std.proofs.lemmas.List.{get_or_default}
use Rattle.std.proofs.lemmas.List.Edits.{map_over_more}
use Rattle.num_theory.specs.declared.number.Number.TheVariants.{Exact}
use Rattle.cell_rows.specs.Forms.{Mark, scaled_mark}
use Rattle.cell_rows.proofs.forms.scale.Goals as goal

pub loop-m-preserved : goal.loop-m-preserved
loop-m-preserved c =
    let before = c.loop-m.marks in
    let i = c.loop-m.m-index in
    let p : Mark = get_or before i (Exact (pos 0), 0) in
    let new : Mark = (c.times-m.result, p.1) in
    let written : new ≡ scaled_mark c.args.by p = λ k. (c.times-m.ensures k, p.1) in
    let step = map_over_more (scaled_mark c.args.by) c.args.marks.now before i p (omega arith) c.loop-m.invariant (get_or_default before i (Exact (pos 0), 0) p (omega (arith, c.loop-m-test.true, c.loop-m.auto.marks))) in
    ap (set before i) written ∙ step
