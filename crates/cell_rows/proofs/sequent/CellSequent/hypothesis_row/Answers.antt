use Rattle.std.proofs.Common.{sym, subst, None, length, option_and_then}
use Rattle.math_terms.specs.Terms.{nodes}
use Rattle.term_cells.specs.KindShown.{sorts_of_vars}
use Rattle.cell_rows.specs.working.Finding.{RowFound}
use Rattle.cell_rows.specs.working.FormulaRows.{formula_row}
use Rattle.cell_rows.specs.RowsStand.{RowStands}
use Rattle.cell_rows.proofs.Numbered.{no_number, number_at, stands_found}
use Rattle.cell_rows.proofs.Tamed.{row_short, small_numbered}
use Rattle.cell_rows.proofs.sequent.CellSequent.hypothesis_row.Goals as goal

pub returns-in_default-clause-row : goal.returns-in_default-clause-row
returns-in_default-clause-row c = λ hs h.
    let cells = c.args.self.now.cells.now.0 in
    subst (λ x. RowStands cells (option_and_then (formula_row c.args.which (sorts_of_vars c.args.self.now.vars.now)) x) None c.args.sheet.now.marks.items)
    (sym (no_number cells hs c.args.self.now.hyps.now c.args.k h (sym c.in_default.ensures))) tt

pub returns-clause-row : goal.returns-clause-row
returns-clause-row c = λ hs h.
    let cells = c.args.self.now.cells.now.0 in
    let vars = sorts_of_vars c.args.self.now.vars.now in
    let t = number_at cells hs c.args.self.now.hyps.now c.args.k c.in-Some.p h (sym c.in-Some.ensures) in
    subst (λ x. RowFound cells (option_and_then (formula_row c.args.which vars) x) c.formula_row.result c.formula_row.new.sheet.marks.items) (sym t.1)
    (stands_found cells (formula_row c.args.which vars t.0) _ c.formula_row.result c.formula_row.new.sheet.marks.items (c.formula_row.ensures.row t.0 t.2))

pub returns-clause-short : goal.returns-clause-short
returns-clause-short c = λ hs size h small.
    let cells = c.args.self.now.cells.now.0 in
    let vars = sorts_of_vars c.args.self.now.vars.now in
    let t = number_at cells hs c.args.self.now.hyps.now c.args.k c.in-Some.p h (sym c.in-Some.ensures) in
    row_short cells (formula_row c.args.which vars t.0) (nodes t.0) size c.formula_row.result c.formula_row.new.sheet.marks.items (length c.args.sheet.now.marks.items) c.formula_row.ensures.room.1 (small_numbered size hs c.args.k t.0 small t.1) (c.formula_row.ensures.row t.0 t.2)
