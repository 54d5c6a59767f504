use Rattle.std.proofs.Common.{◌∙◌, sym, ap, subst, refl, ◌+◌, slice_get, SFits, w64, pos, rules, arith}
use Rattle.std.proofs.lemmas.Bool.{eqb-true}
use Rattle.std.proofs.lemmas.Int.{to_z-of_z}
use Rattle.math_terms.specs.Terms.{nodes}
use Rattle.num_theory.specs.Table.{less_eq, num}
use Rattle.term_cells.proofs.Openings.{not_there}
use Rattle.cell_rows.specs.working.Facts.{lower_form, upper_form}
use Rattle.cell_rows.specs.Forms.{FormOrShort}
use Rattle.cell_rows.specs.RowsStand.{fact_form}
use Rattle.cell_rows.proofs.Nodes.{some_nodes, widened}
use Rattle.cell_rows.proofs.Quotients.{atom_by, len_facts, length_form, of_quotient, only_one}
use Rattle.cell_rows.proofs.fact.form_of_fact.Goals as goal

pub returns-in_err-cell-clause-form : goal.returns-in_err-cell-clause-form
returns-in_err-cell-clause-form c = λ t f h e. absurd (not_there c.args.cells.now.0 t c.args.p (sym c.in_err-cell.ensures) h)

pub returns-then-is-clause-form : goal.returns-then-is-clause-form
returns-then-is-clause-form c = λ t f h e.
    let cells = c.args.cells.now.0 in
    let cell = c.in_ok-cell.cell in
    let is = sym c.in_ok-cell.ensures in
    let atom = atom_by cells t c.args.p cell is h 10 (eqb-true c.in_ok-cell.cell.form 10 (sym c.if-is.ensures)) refl refl refl refl refl in
    let fact = only_one (less_eq (num (pos 0)) t) f c.args.k (ap (λ fs. slice_get fs c.args.k) (sym (len_facts cells t c.args.p cell is h (eqb-true c.in_ok-cell.cell.form 10 (sym c.if-is.ensures)))) ∙ e) in
    let some = some_nodes cells t c.args.p cell is h in
    subst (λ x. FormOrShort cells x (nodes t) c.atom_form.result c.atom_form.new.marks)
    (sym (ap fact_form (sym fact) ∙ length_form t atom))
    (c.atom_form.ensures.form cells t (nodes t) h (omega (arith, some.1)))

pub returns-then-k-eq0-clause-form : goal.returns-then-k-eq0-clause-form
returns-then-k-eq0-clause-form c = λ t f h e.
    let cells = c.args.cells.now.0 in
    let cell = c.in_ok-cell.cell in
    let number = c.literal-number.result in
    let fits : SFits w64 number = search rules in
    let q = of_quotient cells t c.args.p cell (sym c.in_ok-cell.ensures) h number c.args.k f (sym c.if-is.ensures) c.literal-number.ensures e in
    widened cells (lower_form number t q.divided) (fact_form f) (nodes q.divided + 1) (nodes t) c.lower.result c.lower.new.marks (sym (q.first c.if-k-eq0.true)) q.nodes_are
    (simp to_z-of_z at (c.lower.ensures.form q.divided t q.below h))

pub returns-else-k-eq0-clause-form : goal.returns-else-k-eq0-clause-form
returns-else-k-eq0-clause-form c = λ t f h e.
    let cells = c.args.cells.now.0 in
    let cell = c.in_ok-cell.cell in
    let number = c.literal-number.result in
    let fits : SFits w64 number = search rules in
    let q = of_quotient cells t c.args.p cell (sym c.in_ok-cell.ensures) h number c.args.k f (sym c.if-is.ensures) c.literal-number.ensures e in
    widened cells (upper_form number t q.divided) (fact_form f) (1 + nodes q.divided) (nodes t) c.upper.result c.upper.new.marks (sym (q.second c.if-k-eq0.false)) (omega (arith, q.nodes_are))
    (simp to_z-of_z at (c.upper.ensures.form q.divided t q.below h))
