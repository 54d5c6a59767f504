use Rattle.std.proofs.Common.{◌∙◌, sym, ap, length, pos}
use Rattle.std.proofs.lemmas.Bool.{eqb-true}
use Rattle.std.proofs.lemmas.List.{nil_from_length}
use Rattle.cell_rows.specs.working.Columns.{has_product}
use Rattle.num_theory.specs.declared.number.Number.TheVariants.{Exact}
use Rattle.cell_rows.proofs.Flags.{is_first, is_later}
use Rattle.cell_rows.proofs.Ordering.{some_from}
use Rattle.cell_rows.proofs.Places.{first_product, no_products}
use Rattle.cell_rows.proofs.columns.+has_mark.Goals as goal

pub returns-then-is_empty : goal.returns-then-is_empty
returns-then-is_empty m c = λ t ps h s.
    sym (ap (λ x. has_product x t) (no_products c.args.cells.now.0 ps c.args.marks.now (nil_from_length c.args.marks.now (eqb-true (length c.args.marks.now) 0 (sym c.is_empty.ensures ∙ c.if-is_empty.true))) s))

pub returns-then-same : goal.returns-then-same
returns-then-same m c = λ t ps h s.
    let f = first_product c.args.cells.now.0 ps c.args.marks.now (Exact (pos 0), 0) (some_from (length c.args.marks.now) (sym c.is_empty.ensures ∙ c.if-is_empty.false)) s in
    is_first c.args.cells.now.0 t ps c.args.marks.now (Exact (pos 0), 0) f c.same.result (c.same.ensures t f.first.1 h f.first_stands) c.if-same.true

pub returns : goal.returns
returns m c = λ t ps h s.
    let f = first_product c.args.cells.now.0 ps c.args.marks.now (Exact (pos 0), 0) (some_from (length c.args.marks.now) (sym c.is_empty.ensures ∙ c.if-is_empty.false)) s in
    is_later c.args.cells.now.0 t ps c.args.marks.now (Exact (pos 0), 0) f c.same.result (c.same.ensures t f.first.1 h f.first_stands) c.if-same.false c.has_mark.result (c.has_mark.ensures t f.rest h f.rest_stands)
