use Rattle.std.proofs.Common.{◌≡◌, sym, refl, subst, ◌+◌, None, true, pos, arith}
use Rattle.std.proofs.lemmas.Bool.{eqb-true}
use Rattle.math_terms.specs.declared.term.Term.TheOpen.{Term-F}
use Rattle.math_terms.specs.Terms.{nodes}
use Rattle.term_cells.specs.declared.cell.Cell.{Cell}
use Rattle.term_cells.specs.KindShown.{sorts_of_vars}
use Rattle.term_cells.specs.Standing.{stands, stands_below}
use Rattle.term_cells.proofs.Openings.{not_there}
use Rattle.cell_rows.specs.RowsStand.{RowStands, difference_row, equation_row, second_row_at}
use Rattle.cell_rows.proofs.Comparing.{equation_exchanged, no_second, of_sides}
use Rattle.cell_rows.proofs.Nodes.{two_at}
use Rattle.cell_rows.proofs.sequent.CellSequent.second_row.Goals as goal

pub returns-in_default-clause-row : goal.returns-in_default-clause-row
returns-in_default-clause-row c = λ t h. absurd (not_there c.args.self.now.cells.now.0 t c.args.p (sym c.in_default.ensures) h)

pub returns-then-is-clause-row : goal.returns-then-is-clause-row
returns-then-is-clause-row c = λ t h.
    let cells = c.args.self.now.cells.now.0 in
    let cell = c.in-Some.cell in
    let vars = sorts_of_vars c.args.self.now.vars.now in
    let s = two_at Term-F.Eq 18 (λ a b. record { form_is = refl; own_is = refl; children_are = refl }) refl cells t c.args.p cell (sym c.in-Some.ensures) (eqb-true c.in-Some.cell.form 18 (sym c.if-is.ensures)) h in
    let first = subst (λ (x : Cell). stands_below (stands cells s.right) x.a c.args.p ≡ true) (sym c.exchange.ensures) s.right_is in
    let second = subst (λ (x : Cell). stands_below (stands cells s.left) x.b c.args.p ≡ true) (sym c.exchange.ensures) s.left_is in
    let row = difference_row (pos 0) s.right s.left in
    of_sides cells (second_row_at vars) t Term-F.Eq cell c.args.p (equation_row vars s.right s.left row) c.equation_row.result c.equation_row.new.sheet.marks.items s
    (equation_exchanged vars s.right s.left row)
    (nodes s.left + nodes s.right) (omega arith) (c.equation_row.ensures.row s.right s.left first second)

pub returns-clause-row : goal.returns-clause-row
returns-clause-row c = λ t h.
    let cells = c.args.self.now.cells.now.0 in
    let cell = c.in-Some.cell in
    subst (λ x. RowStands cells x None c.args.sheet.now.marks.items)
    (sym (no_second cells t c.args.p cell (sym c.in-Some.ensures) h (sorts_of_vars c.args.self.now.vars.now) (sym c.if-is.ensures))) tt
