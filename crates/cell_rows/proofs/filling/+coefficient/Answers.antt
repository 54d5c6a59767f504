use Rattle.std.proofs.Common.{◌∙◌, sym, ap, length, pos}
use Rattle.std.proofs.lemmas.Bool.{eqb-true}
use Rattle.std.proofs.lemmas.List.{nil_from_length}
use Rattle.num_theory.specs.declared.number.Number.TheVariants.{Exact}
use Rattle.num_theory.specs.Table.{coefficient}
use Rattle.cell_rows.proofs.Matrix.{coefficient_here, coefficient_later, first_coefficient}
use Rattle.cell_rows.proofs.Ordering.{some_from}
use Rattle.cell_rows.proofs.Places.{first_product, no_products}
use Rattle.cell_rows.proofs.filling.+coefficient.Goals as goal

pub returns-then-is_empty : goal.returns-then-is_empty
returns-then-is_empty m c = λ t ps h s.
    sym (ap (λ x. Exact (coefficient t x)) (no_products c.args.cells.now.0 ps c.args.marks.now (nil_from_length c.args.marks.now (eqb-true (length c.args.marks.now) 0 (sym c.is_empty.ensures ∙ c.if-is_empty.true))) s))

pub returns-then-same : goal.returns-then-same
returns-then-same m c = λ t ps h s.
    let cells = c.args.cells.now.0 in
    let ms = c.args.marks.now in
    let some = some_from (length ms) (sym c.is_empty.ensures ∙ c.if-is_empty.false) in
    let f = first_product cells ps ms (Exact (pos 0), 0) some s in
    first_coefficient cells ps ms (Exact (pos 0), 0) f s some ∙ sym (ap Exact (coefficient_here cells t ps ms (Exact (pos 0), 0) f c.same.result (c.same.ensures t f.first.1 h f.first_stands) c.if-same.true))

pub returns : goal.returns
returns m c = λ t ps h s.
    let cells = c.args.cells.now.0 in
    let ms = c.args.marks.now in
    let f = first_product cells ps ms (Exact (pos 0), 0) (some_from (length ms) (sym c.is_empty.ensures ∙ c.if-is_empty.false)) s in
    c.coefficient.ensures t f.rest h f.rest_stands ∙ sym (ap Exact (coefficient_later cells t ps ms (Exact (pos 0), 0) f c.same.result (c.same.ensures t f.first.1 h f.first_stands) c.if-same.false))
