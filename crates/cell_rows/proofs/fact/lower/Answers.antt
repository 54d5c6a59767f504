use Rattle.std.proofs.Common.{◌-◌, ◌++◌, List, length, take, drop, SFits, w64}
use Rattle.std.proofs.lemmas.Int.{to_z-of_z}
use Rattle.math_terms.specs.Terms.{nodes}
use Rattle.num_theory.specs.Linear.{formed}
use Rattle.cell_rows.specs.working.Facts.{multiple_form}
use Rattle.cell_rows.specs.Forms.{FormStands, Mark}
use Rattle.cell_rows.proofs.Nodes.{behind, kept, low_part}
use Rattle.cell_rows.proofs.fact.lower.Goals as goal

pub returns-clause-form : goal.returns-clause-form
returns-clause-form c = λ t q h k.
    let cells = c.args.cells.now.0 in
    let fits : SFits w64 c.args.number = c.ranges.number in
    let n = c.in_ok-f.f.count in
    let first : List Mark = c.form_below.new.marks in
    let second : List Mark = c.multiple_of.new.marks in
    let rest : List Mark = drop (length first - n) (drop n first) in
    let low : FormStands cells ((formed t).1) (nodes t) c.in_ok-f.f first = c.in_ok-f.ensures.form t h in
    let high : FormStands cells (multiple_form c.args.number q) (1) c.in_ok-g.g second = simp to_z-of_z at (c.in_ok-g.ensures.form cells q k) in
    c.minus.ensures.form ((formed t).1) (multiple_form c.args.number q) (nodes t) (1)
    (kept cells ((formed t).1) (nodes t) c.in_ok-f.f first (take n first ++ (second ++ rest)) (low_part n first (second ++ rest) c.in_ok-f.ensures.fits) low)
    (behind cells (multiple_form c.args.number q) (1) c.in_ok-g.g n first second rest c.in_ok-f.ensures.fits c.in_ok-g.ensures.fits high)
