use Rattle.cell_rules.proofs.Linking.{list_cell}
use Rattle.cell_rules.proofs.pairs.side_by_side.Goals as goal

pub returns-in_default : goal.returns-in_default
returns-in_default c = λ ts us m n h g.
    let o = list_cell c.parts_open.ensures c.args.cells.now.0 ts c.args.left m h in
    let e = o.1 in
    absurd (cc c.in_default.ensures)
