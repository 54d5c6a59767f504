use Rattle.std.proofs.Common.{◌∙◌, sym}
use Rattle.cell_rows.proofs.Ending.{clash, no_clash}
use Rattle.cell_rows.proofs.lines.clashes.Goals as goal

pub returns-in_default : goal.returns-in_default
returns-in_default c = λ rows h. no_clash c.args.width rows c.args.places.now h (sym c.in_default.ensures)

pub returns : goal.returns
returns c = λ rows h. c.is_contradiction.ensures ∙ clash c.args.width rows c.args.places.now c.in-Some.row h (sym c.in-Some.ensures)
