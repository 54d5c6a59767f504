use Rattle.std.proofs.Common.{◌≡◌, ◌∙◌, sym, ap, subst, ◌+◌, true, refl, SFits, w64, length, drop}
use Rattle.std.proofs.lemmas.Int.{to_z-of_z}
use Rattle.std.proofs.lemmas.List.{take_at}
use Rattle.math_terms.specs.declared.term.Term.TheOpen.{Term-F}
use Rattle.math_terms.specs.declared.term.Term.TheViews.{roll-Term}
use Rattle.math_terms.specs.Terms.{nodes}
use Rattle.num_theory.specs.Linear.{Form, formed, minus_one, plus, times, shown_form}
use Rattle.num_theory.specs.working.Making.{IsWellMade}
use Rattle.num_theory.proofs.Forming.{form_at}
use Rattle.num_theory.proofs.WellMade.{form_well}
use Rattle.term_cells.specs.declared.cell.Cell.{Cell}
use Rattle.term_cells.specs.Standing.{stands, stands_below}
use Rattle.cell_rows.specs.Forms.{FormStands}
use Rattle.cell_rows.specs.RowsStand.{RowStands, shifted}
use Rattle.cell_rows.proofs.sheet.Sheet.comparison_row.Goals as goal

pub returns-clause-row : goal.returns-clause-row
returns-clause-row c = λ t u h k.
    let cells = c.args.cells.now.0 in
    let shift : SFits w64 c.args.shift = c.ranges.shift in
    let form : Form = plus (formed u).1 (times minus_one (formed t).1) in
    let first = subst (λ (x : Cell). stands_below (stands cells u) x.a c.args.p ≡ true) (sym c.exchange-exchanged.ensures) k in
    let second = subst (λ (x : Cell). stands_below (stands cells t) x.b c.args.p ≡ true) (sym c.exchange-exchanged.ensures) h in
    let m = c.args.self.now.marks in
    let new = c.difference_form.new.marks in
    let whole = take_at new (drop (length new) m.items) m.len (c.difference_form.auto.marks ∙ ap length c.deref_mut.ensures.value ∙ sym m.ok.0) in
    let stands_so = subst (FormStands cells form (nodes u + nodes t) c.in-Some.form) (sym whole) (c.in-Some.ensures.form u t first second) in
    let is = form_at (Term-F.Sub u t) (roll-Term (Term-F.Sub u t)) refl in
    let well = subst IsWellMade is (form_well (roll-Term (Term-F.Sub u t))) in
    subst (λ (f : Form). RowStands cells (shifted c.args.shift (shown_form f)) c.row_of_form.result c.row_of_form.new.self.marks.items)
    (sym is)
    (simp to_z-of_z at (c.row_of_form.ensures.row form (nodes u + nodes t) well stands_so))
