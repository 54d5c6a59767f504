use Rattle.std.proofs.Common.{◌∙◌, sym, ap, subst, length, drop}
use Rattle.std.proofs.lemmas.List.{take_at}
use Rattle.math_terms.specs.declared.term.Term.TheViews.{out-Term}
use Rattle.math_terms.specs.Terms.{nodes}
use Rattle.cell_rows.specs.Forms.{FormStands}
use Rattle.cell_rows.specs.RowsStand.{fact_form}
use Rattle.cell_rows.proofs.Narrowing.{fact_well}
use Rattle.cell_rows.proofs.sheet.Sheet.row_of_fact.Goals as goal

pub returns-clause-row : goal.returns-clause-row
returns-clause-row c = λ t f h e.
    let m = c.args.self.now.marks in
    let new = c.form_of_fact.new.marks in
    let whole = take_at new (drop (length new) m.items) m.len (c.form_of_fact.auto.marks ∙ ap length c.deref_mut.ensures.value ∙ sym m.ok.0) in
    c.row_of_form.ensures.row (fact_form f) (nodes t) (fact_well (out-Term f)) (subst (FormStands c.args.cells.now.0 (fact_form f) (nodes t) c.in-Some.form) (sym whole) (c.in-Some.ensures.form t f h e))
