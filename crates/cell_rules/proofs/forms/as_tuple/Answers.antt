use Rattle.std.proofs.Common.{sym, true}
use Rattle.math_terms.specs.declared.term.Term.TheViews.{out-Term}
use Rattle.cell_rules.proofs.Looked.{its_test, node_at, tuple_looked}
use Rattle.cell_rules.proofs.forms.as_tuple.Goals as goal

pub returns-then-is : goal.returns-then-is
returns-then-is c = λ t h.
    let cells = c.args.cells.now.0 in
    let cell = c.in_ok-cell.cell in
    let n = node_at c.standing_opens.ensures cells t c.args.p cell (sym c.in_ok-cell.ensures) h in
    tuple_looked cells (out-Term t) cell c.args.p (its_test cells t c.args.p cell 16 true n (sym c.if-is.ensures)) n.children_are
