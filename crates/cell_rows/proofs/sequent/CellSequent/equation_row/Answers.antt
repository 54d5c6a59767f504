use Rattle.std.proofs.Common.{◌∙◌, sym, subst, ◌+◌, None, pos, arith}
use Rattle.math_terms.specs.Terms.{nodes}
use Rattle.term_cells.specs.KindShown.{sorts_of_vars}
use Rattle.term_cells.specs.Standing.{stands}
use Rattle.term_cells.proofs.Apart.{below_parts}
use Rattle.cell_rows.specs.RowsStand.{RowStands, difference_row, equation_row}
use Rattle.cell_rows.proofs.Comparing.{equation_is, equation_none, row_widened}
use Rattle.cell_rows.proofs.sequent.CellSequent.equation_row.Goals as goal

pub returns-then-not-are_numbers-clause-row : goal.returns-then-not-are_numbers-clause-row
returns-then-not-are_numbers-clause-row c = λ t u h k.
    let cells = c.args.self.now.cells.now.0 in
    let vars = sorts_of_vars c.args.self.now.vars.now in
    let are = c.are_numbers.ensures t u (below_parts (stands cells t) c.args.cell.a c.args.p h).1 (below_parts (stands cells u) c.args.cell.b c.args.p k).1 in
    subst (λ x. RowStands cells x None c.args.sheet.now.marks.items) (equation_none vars t u (difference_row (pos 0) t u) (sym are ∙ c.if-not-are_numbers.true)) tt

pub returns-clause-row : goal.returns-clause-row
returns-clause-row c = λ t u h k.
    let cells = c.args.self.now.cells.now.0 in
    let vars = sorts_of_vars c.args.self.now.vars.now in
    let are = c.are_numbers.ensures t u (below_parts (stands cells t) c.args.cell.a c.args.p h).1 (below_parts (stands cells u) c.args.cell.b c.args.p k).1 in
    row_widened cells (difference_row (pos 0) t u) (equation_row vars t u (difference_row (pos 0) t u)) (nodes u + nodes t) (nodes u + nodes t) c.comparison_row.result c.comparison_row.new.self.marks.items
    (equation_is vars t u (difference_row (pos 0) t u) (sym are ∙ c.if-not-are_numbers.false)) (omega arith) (c.comparison_row.ensures.row t u h k)
