use Rattle.std.proofs.Common.{◌∙◌, sym, length}
use Rattle.std.proofs.lemmas.Bool.{eqb-true}
use Rattle.std.proofs.lemmas.List.{nil_from_length}
use Rattle.cell_rows.proofs.Ordering.{ordered_more, none_ordered, some_from}
use Rattle.cell_rows.proofs.order.+in_text_order.Goals as goal

pub returns-then-is_empty-clause-ordered : goal.returns-then-is_empty-clause-ordered
returns-then-is_empty-clause-ordered t c = λ ps h. none_ordered c.args.cells.now.0 ps c.args.marks.now (nil_from_length c.args.marks.now (eqb-true (length c.args.marks.now) 0 (sym c.is_empty.ensures ∙ c.if-is_empty.true))) h

pub returns-clause-ordered : goal.returns-clause-ordered
returns-clause-ordered t c = λ ps h.
    ordered_more c.args.cells.now.0 ps c.args.marks.now c.in_text_order.new.marks c.insert.new.marks (some_from (length c.args.marks.now) (sym c.is_empty.ensures ∙ c.if-is_empty.false)) c.in_text_order.ensures.ordered c.insert.ensures.placed h
