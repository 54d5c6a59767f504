use Rattle.cell_rows.proofs.Replaying.{row_found}
use Rattle.cell_rows.proofs.lines.row_numbered.Goals as goal

pub returns : goal.returns
returns c = λ width rows h. row_found width c.args.count rows c.args.places.now h c.args.k c.if-k-eq0.false c.if-k-count.false c.row_at.result c.row_at.ensures
