use Rattle.std.proofs.Common.{sym}
use Rattle.term_cells.proofs.Apart.{holds, fails}
use Rattle.term_cells.proofs.PieceOf.{nothing_there, ends_here, list_here, term_here}
use Rattle.term_cells.proofs.cells.Cells.next_piece.Goals as goal

pub returns-in_default-clause-piece : goal.returns-in_default-clause-piece
returns-in_default-clause-piece c = λ ps has. absurd (nothing_there c.args.self.now.0 c.args.frame.place c.args.frame.wrapped ps (sym c.in_default.ensures) has)

pub returns-then-is_link-clause-piece : goal.returns-then-is_link-clause-piece
returns-then-is_link-clause-piece c = λ ps has.
    list_here c.args.self.now.0 c.args.frame.place c.args.frame.wrapped c.in-Some.cell (sym c.in-Some.ensures) ps has c.args.frame.stage c.list_piece.result (holds c.in-Some.cell.form 27 c.if-is_link.ensures)
    (λ limit t us h. c.list_piece.ensures.piece c.args.frame.place limit t us (sym c.in-Some.ensures) h)

pub returns-in_default-node_form-clause-piece : goal.returns-in_default-node_form-clause-piece
returns-in_default-node_form-clause-piece c = λ ps has.
    ends_here c.args.self.now.0 c.args.frame.place c.args.frame.wrapped c.in-Some.cell (sym c.in-Some.ensures) ps has c.args.frame.stage
    (λ f e. let none = c.in_default-node_form.ensures.each f e in cc) (fails c.in-Some.cell.form 27 c.if-is_link.ensures)

pub returns-clause-piece : goal.returns-clause-piece
returns-clause-piece c = λ ps has.
    term_here c.args.self.now.0 c.args.frame.place c.args.frame.wrapped c.in-Some.cell (sym c.in-Some.ensures) ps has c.args.frame.stage c.node_piece.result c.in-Some-node_form.form c.in-Some-node_form.ensures.numbered
    (λ t h. c.node_piece.ensures.piece c.args.frame.place t (sym c.in-Some.ensures) c.in-Some-node_form.ensures.numbered h)
