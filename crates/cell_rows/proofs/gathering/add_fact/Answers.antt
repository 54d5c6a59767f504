use Rattle.std.proofs.Common.{◌<◌, sym, subst, length, take, arith}
use Rattle.cell_rows.specs.working.Atoms.{with_row}
use Rattle.cell_rows.specs.RowsStand.{RowStands, fact_row}
use Rattle.cell_rows.proofs.Bounded.{fact_within}
use Rattle.cell_rows.proofs.Crowded.{row_places}
use Rattle.cell_rows.proofs.Gathered.{found}
use Rattle.cell_rows.proofs.gathering.add_fact.Goals as goal

pub returns-clause-added : goal.returns-clause-added
returns-clause-added c = λ t f ts h e s.
    let row = subst (RowStands c.args.cells.now.0 (fact_row f) c.in-Ok.row) (sym c.deref.ensures.value) (c.in-Ok.ensures.row t f h e) in
    found c.args.cells.now.0 (with_row ts (fact_row f)) c.add_row.result c.add_row.new.places (c.add_row.ensures.added ts (fact_row f) s row)

pub returns-clause-short : goal.returns-clause-short
returns-clause-short c = λ t f ts size h e s tame few room.
    let row = subst (RowStands c.args.cells.now.0 (fact_row f) c.in-Ok.row) (sym c.deref.ensures.value) (c.in-Ok.ensures.row t f h e) in
    row_places c.args.cells.now.0 ts (take c.args.count c.args.places.now) (fact_row f) c.in-Ok.row c.deref.result.now size s row (fact_within size t c.args.k f few e) tame
    c.add_row.result c.add_row.new.places (c.add_row.ensures.added ts (fact_row f) s row) (omega arith) (length c.args.sheet.now.marks.items < size)
