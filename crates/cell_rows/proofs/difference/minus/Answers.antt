use Rattle.std.proofs.Common.{sym, ap, subst, ◌-◌, ◌≤◌, ◌++◌, List, length, take, drop, arith}
use Rattle.num_theory.specs.Linear.{minus_one, times}
use Rattle.cell_rows.specs.Forms.{Mark, FormStands}
use Rattle.cell_rows.proofs.Nodes.{all_taken, behind, kept, low_part}
use Rattle.std.proofs.lemmas.List.{length-drop}
use Rattle.cell_rows.proofs.difference.minus.Goals as goal

pub returns-clause-form : goal.returns-clause-form
returns-clause-form c = λ a b m j h g.
    let cells = c.args.cells.now.0 in
    let n = c.args.f.count in
    let before : List Mark = c.args.marks.now in
    let third : List Mark = c.times-negated.new.marks in
    let last : List Mark = drop (length before - n) (drop n before) in
    let room : n ≤ length before = omega (arith, c.requires) in
    let fits : c.times-negated.result.count ≤ length third = omega (arith, c.requires, c.times-negated.ensures.count, c.times-negated.auto.marks, ap length (all_taken n before), length-drop n before) in
    c.plus.ensures.form a (times (minus_one) b) m j
    (kept cells a m c.args.f before (take n before ++ (third ++ last)) (low_part n before (third ++ last) room) h)
    (behind cells (times (minus_one) b) j c.times-negated.result n before third last room fits
    (c.times-negated.ensures.form cells b j (subst (FormStands cells b j c.args.g) (sym (all_taken n before)) g)))
