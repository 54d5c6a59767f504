use Rattle.std.proofs.Common.{sym, refl, subst, ◌+◌, None, pos, negsuc, arith}
use Rattle.std.proofs.lemmas.Bool.{eqb-true}
use Rattle.math_terms.specs.declared.term.Term.TheOpen.{Term-F}
use Rattle.math_terms.specs.Terms.{nodes}
use Rattle.term_cells.specs.KindShown.{sorts_of_vars}
use Rattle.term_cells.proofs.Openings.{not_there}
use Rattle.cell_rows.specs.RowsStand.{RowStands, difference_row, equation_row, first_row_at}
use Rattle.cell_rows.proofs.Comparing.{none_at, of_sides}
use Rattle.cell_rows.proofs.Nodes.{two_at}
use Rattle.cell_rows.proofs.sequent.CellSequent.first_row.Goals as goal

pub returns-in_default-clause-row : goal.returns-in_default-clause-row
returns-in_default-clause-row c = λ t h. absurd (not_there c.args.self.now.cells.now.0 t c.args.p (sym c.in_default.ensures) h)

pub returns-then-is-clause-row : goal.returns-then-is-clause-row
returns-then-is-clause-row c = λ t h.
    let cells = c.args.self.now.cells.now.0 in
    let cell = c.in-Some.cell in
    let s = two_at Term-F.LessEq 20 (λ a b. record { form_is = refl; own_is = refl; children_are = refl }) refl cells t c.args.p cell (sym c.in-Some.ensures) (eqb-true c.in-Some.cell.form 20 (sym c.if-is.ensures)) h in
    of_sides cells (first_row_at (sorts_of_vars c.args.self.now.vars.now)) t Term-F.LessEq cell c.args.p (difference_row (pos 0) s.left s.right) c.comparison_row.result c.comparison_row.new.self.marks.items s refl
    (nodes s.right + nodes s.left) (omega arith) (c.comparison_row.ensures.row s.left s.right s.left_is s.right_is)

pub returns-then-is-2-clause-row : goal.returns-then-is-2-clause-row
returns-then-is-2-clause-row c = λ t h.
    let cells = c.args.self.now.cells.now.0 in
    let cell = c.in-Some.cell in
    let s = two_at Term-F.Less 19 (λ a b. record { form_is = refl; own_is = refl; children_are = refl }) refl cells t c.args.p cell (sym c.in-Some.ensures) (eqb-true c.in-Some.cell.form 19 (sym c.if-is-2.ensures)) h in
    let row = c.comparison_row-then-is-2 in
    of_sides cells (first_row_at (sorts_of_vars c.args.self.now.vars.now)) t Term-F.Less cell c.args.p (difference_row (negsuc 0) s.left s.right) row.result row.new.self.marks.items s refl
    (nodes s.right + nodes s.left) (omega arith) (row.ensures.row s.left s.right s.left_is s.right_is)

pub returns-then-is-3-clause-row : goal.returns-then-is-3-clause-row
returns-then-is-3-clause-row c = λ t h.
    let cells = c.args.self.now.cells.now.0 in
    let cell = c.in-Some.cell in
    let vars = sorts_of_vars c.args.self.now.vars.now in
    let s = two_at Term-F.Eq 18 (λ a b. record { form_is = refl; own_is = refl; children_are = refl }) refl cells t c.args.p cell (sym c.in-Some.ensures) (eqb-true c.in-Some.cell.form 18 (sym c.if-is-3.ensures)) h in
    of_sides cells (first_row_at vars) t Term-F.Eq cell c.args.p (equation_row vars s.left s.right (difference_row (pos 0) s.left s.right)) c.equation_row.result c.equation_row.new.sheet.marks.items s refl
    (nodes s.right + nodes s.left) (omega arith) (c.equation_row.ensures.row s.left s.right s.left_is s.right_is)

pub returns-clause-row : goal.returns-clause-row
returns-clause-row c = λ t h.
    let cells = c.args.self.now.cells.now.0 in
    let cell = c.in-Some.cell in
    let none = none_at cells t c.args.p cell (sym c.in-Some.ensures) h (sorts_of_vars c.args.self.now.vars.now) (sym c.if-is.ensures) (sym c.if-is-2.ensures) (sym c.if-is-3.ensures) in
    subst (λ x. RowStands cells x None c.args.sheet.now.marks.items) (sym none) tt
