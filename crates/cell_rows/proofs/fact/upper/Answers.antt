use Rattle.std.proofs.Common.{◌-◌, ◌++◌, List, length, take, drop, SFits, w64}
use Rattle.std.proofs.lemmas.Int.{to_z-of_z}
use Rattle.math_terms.specs.Terms.{nodes}
use Rattle.num_theory.specs.Linear.{formed}
use Rattle.cell_rows.specs.working.Facts.{last_form}
use Rattle.cell_rows.specs.Forms.{FormStands, Mark}
use Rattle.cell_rows.proofs.Nodes.{behind, kept, low_part}
use Rattle.cell_rows.proofs.fact.upper.Goals as goal

pub returns-clause-form : goal.returns-clause-form
returns-clause-form c = λ t q h k.
    let cells = c.args.cells.now.0 in
    let fits : SFits w64 c.args.number = c.ranges.number in
    let n = c.in_ok-f.f.count in
    let first : List Mark = c.last_of.new.marks in
    let second : List Mark = c.form_below.new.marks in
    let rest : List Mark = drop (length first - n) (drop n first) in
    let low : FormStands cells (last_form c.args.number q) (1) c.in_ok-f.f first = simp to_z-of_z at (c.in_ok-f.ensures.form q k) in
    let high : FormStands cells ((formed t).1) (nodes t) c.in_ok-g.g second = c.in_ok-g.ensures.form t h in
    c.minus.ensures.form (last_form c.args.number q) ((formed t).1) (1) (nodes t)
    (kept cells (last_form c.args.number q) (1) c.in_ok-f.f first (take n first ++ (second ++ rest)) (low_part n first (second ++ rest) c.in_ok-f.ensures.fits) low)
    (behind cells ((formed t).1) (nodes t) c.in_ok-g.g n first second rest c.in_ok-f.ensures.fits c.in_ok-g.ensures.fits high)
