use Rattle.std.proofs.Common.{◌<◌, sym, subst, None, length, take, arith}
use Rattle.math_terms.specs.Terms.{nodes}
use Rattle.term_cells.specs.KindShown.{sorts_of_vars}
use Rattle.cell_rows.specs.working.Atoms.{AtomsFound, with_row}
use Rattle.cell_rows.specs.RowsStand.{RowStands, first_row, second_row}
use Rattle.cell_rows.proofs.Bounded.{first_small, row_more, second_small}
use Rattle.cell_rows.proofs.Crowded.{row_places, tame_row}
use Rattle.cell_rows.proofs.Gathered.{found}
use Rattle.cell_rows.proofs.Summing.{formula_atoms}
use Rattle.cell_rows.proofs.sequent.CellSequent.add_formula.Goals as goal

pub returns-clause-added : goal.returns-clause-added
returns-clause-added c = λ k t ts h s.
    let cells = c.args.self.now.cells.now.0 in
    let vars = sorts_of_vars c.args.self.now.vars.now in
    let row_first = subst (RowStands cells (first_row vars t) c.in-Ok.first) (sym c.deref.ensures.value) (c.in-Ok.ensures.row t h) in
    let first = c.in_ok-count.ensures.added ts (first_row vars t) s row_first in
    let row = subst (RowStands cells (second_row vars t) c.in-Ok-formula_row.second) (sym c.deref-2.ensures.value) (c.in-Ok-formula_row.ensures.row t h) in
    let second = c.add_row-2.ensures.added (with_row ts (first_row vars t)) (second_row vars t) first row in
    subst (λ x. AtomsFound cells x c.add_row-2.result c.add_row-2.new.places) (formula_atoms vars k ts t)
    (found cells (with_row (with_row ts (first_row vars t)) (second_row vars t)) c.add_row-2.result c.add_row-2.new.places second)

pub returns-in_err-count-clause-short : goal.returns-in_err-count-clause-short
returns-in_err-count-clause-short c = λ t ts size h s tame few room.
    let vars = sorts_of_vars c.args.self.now.vars.now in
    let row = subst (RowStands c.args.self.now.cells.now.0 (first_row vars t) c.in-Ok.first) (sym c.deref.ensures.value) (c.in-Ok.ensures.row t h) in
    rw c.from_residual.ensures
    (row_places c.args.self.now.cells.now.0 ts (take c.args.count c.args.places.now) (first_row vars t) c.in-Ok.first c.deref.result.now size s row
    (row_more (nodes t) size (first_row vars t) few (first_small vars t)) tame
    None c.add_row.new.places (c.in_err-count.ensures.added ts (first_row vars t) s row) (omega arith) (length c.args.sheet.now.marks.items < size))

pub returns-clause-short : goal.returns-clause-short
returns-clause-short c = λ t ts size h s tame few room.
    let cells = c.args.self.now.cells.now.0 in
    let vars = sorts_of_vars c.args.self.now.vars.now in
    let row_first = subst (RowStands cells (first_row vars t) c.in-Ok.first) (sym c.deref.ensures.value) (c.in-Ok.ensures.row t h) in
    let first = c.in_ok-count.ensures.added ts (first_row vars t) s row_first in
    let tame_first = tame_row size ts (first_row vars t) (row_more (nodes t) size (first_row vars t) few (first_small vars t)) tame in
    let row = subst (RowStands cells (second_row vars t) c.in-Ok-formula_row.second) (sym c.deref-2.ensures.value) (c.in-Ok-formula_row.ensures.row t h) in
    row_places cells (with_row ts (first_row vars t)) (take c.in_ok-count.count c.add_row.new.places) (second_row vars t) c.in-Ok-formula_row.second c.deref-2.result.now size first row
    (row_more (nodes t) size (second_row vars t) few (second_small vars t)) tame_first
    c.add_row-2.result c.add_row-2.new.places (c.add_row-2.ensures.added (with_row ts (first_row vars t)) (second_row vars t) first row) (omega arith) (length c.args.sheet.now.marks.items < size)
