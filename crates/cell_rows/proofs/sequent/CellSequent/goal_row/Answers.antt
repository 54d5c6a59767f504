use Rattle.std.proofs.Common.{◌≡◌, sym, refl, subst, ◌+◌, None, true, pos, negsuc, arith}
use Rattle.std.proofs.lemmas.Bool.{eqb-true}
use Rattle.math_terms.specs.declared.term.Term.TheOpen.{Term-F}
use Rattle.math_terms.specs.Terms.{nodes}
use Rattle.term_cells.specs.declared.cell.Cell.{Cell}
use Rattle.term_cells.specs.Standing.{stands, stands_below}
use Rattle.term_cells.proofs.Openings.{not_there}
use Rattle.cell_rows.specs.RowsStand.{RowStands, difference_row, goal_row_at}
use Rattle.cell_rows.proofs.Comparing.{no_goal, of_sides}
use Rattle.cell_rows.proofs.Nodes.{two_at}
use Rattle.cell_rows.proofs.sequent.CellSequent.goal_row.Goals as goal

pub returns-in_default-clause-row : goal.returns-in_default-clause-row
returns-in_default-clause-row c = λ t h. absurd (not_there c.args.self.now.cells.now.0 t c.args.self.now.goal (sym c.in_default.ensures) h)

pub returns-then-is-clause-row : goal.returns-then-is-clause-row
returns-then-is-clause-row c = λ t h.
    let cells = c.args.self.now.cells.now.0 in
    let cell = c.in-Some.cell in
    let s = two_at Term-F.Less 19 (λ a b. record { form_is = refl; own_is = refl; children_are = refl }) refl cells t c.args.self.now.goal cell (sym c.in-Some.ensures) (eqb-true c.in-Some.cell.form 19 (sym c.if-is.ensures)) h in
    let row = c.comparison_row in
    let other = c.exchange in
    let first = subst (λ (x : Cell). stands_below (stands cells s.right) x.a c.args.self.now.goal ≡ true) (sym other.ensures) s.right_is in
    let second = subst (λ (x : Cell). stands_below (stands cells s.left) x.b c.args.self.now.goal ≡ true) (sym other.ensures) s.left_is in
    of_sides cells goal_row_at t Term-F.Less cell c.args.self.now.goal (difference_row (pos 0) s.right s.left) row.result row.new.self.marks.items s refl
    (nodes s.left + nodes s.right) (omega arith) (row.ensures.row s.right s.left first second)

pub returns-then-is-2-clause-row : goal.returns-then-is-2-clause-row
returns-then-is-2-clause-row c = λ t h.
    let cells = c.args.self.now.cells.now.0 in
    let cell = c.in-Some.cell in
    let s = two_at Term-F.LessEq 20 (λ a b. record { form_is = refl; own_is = refl; children_are = refl }) refl cells t c.args.self.now.goal cell (sym c.in-Some.ensures) (eqb-true c.in-Some.cell.form 20 (sym c.if-is-2.ensures)) h in
    let row = c.comparison_row-then-is-2 in
    let other = c.exchange-then-is-2 in
    let first = subst (λ (x : Cell). stands_below (stands cells s.right) x.a c.args.self.now.goal ≡ true) (sym other.ensures) s.right_is in
    let second = subst (λ (x : Cell). stands_below (stands cells s.left) x.b c.args.self.now.goal ≡ true) (sym other.ensures) s.left_is in
    of_sides cells goal_row_at t Term-F.LessEq cell c.args.self.now.goal (difference_row (negsuc 0) s.right s.left) row.result row.new.self.marks.items s refl
    (nodes s.left + nodes s.right) (omega arith) (row.ensures.row s.right s.left first second)

pub returns-clause-row : goal.returns-clause-row
returns-clause-row c = λ t h.
    let cells = c.args.self.now.cells.now.0 in
    let cell = c.in-Some.cell in
    subst (λ x. RowStands cells x None c.args.sheet.now.marks.items)
    (sym (no_goal cells t c.args.self.now.goal cell (sym c.in-Some.ensures) h (sym c.if-is.ensures) (sym c.if-is-2.ensures))) tt
