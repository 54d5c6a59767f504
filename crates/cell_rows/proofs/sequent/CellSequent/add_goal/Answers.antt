use Rattle.std.proofs.Common.{◌<◌, sym, subst, length, take, arith}
use Rattle.math_terms.specs.Terms.{nodes}
use Rattle.cell_rows.specs.working.Atoms.{with_row}
use Rattle.cell_rows.specs.RowsStand.{RowStands, goal_row}
use Rattle.cell_rows.proofs.Bounded.{goal_small, row_more}
use Rattle.cell_rows.proofs.Crowded.{row_places}
use Rattle.cell_rows.proofs.Gathered.{found}
use Rattle.cell_rows.proofs.sequent.CellSequent.add_goal.Goals as goal

pub returns-clause-added : goal.returns-clause-added
returns-clause-added c = λ t ts h s.
    let row = subst (RowStands c.args.self.now.cells.now.0 (goal_row t) c.in-Ok.row) (sym c.deref.ensures.value) (c.in-Ok.ensures.row t h) in
    found c.args.self.now.cells.now.0 (with_row ts (goal_row t)) c.add_row.result c.add_row.new.places (c.add_row.ensures.added ts (goal_row t) s row)

pub returns-clause-short : goal.returns-clause-short
returns-clause-short c = λ t ts size h s tame few room.
    let row = subst (RowStands c.args.self.now.cells.now.0 (goal_row t) c.in-Ok.row) (sym c.deref.ensures.value) (c.in-Ok.ensures.row t h) in
    row_places c.args.self.now.cells.now.0 ts (take c.args.count c.args.places.now) (goal_row t) c.in-Ok.row c.deref.result.now size s row (row_more (nodes t) size (goal_row t) few (goal_small t)) tame
    c.add_row.result c.add_row.new.places (c.add_row.ensures.added ts (goal_row t) s row) (omega arith) (length c.args.sheet.now.marks.items < size)
