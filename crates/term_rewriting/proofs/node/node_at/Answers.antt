use Rattle.std.proofs.Common.{sym, subst}
use Rattle.term_rewriting.proofs.Opened.{opened}
use Rattle.term_rewriting.specs.Nodes.{Shows}
use Rattle.term_rewriting.proofs.node.node_at.Goals as goal

pub returns : goal.returns
returns c = λ t h.
    let cells = c.args.cells.now.0 in
    let cell = c.in_ok-cell.cell in
    subst (Shows cells c.args.p t) (sym c.node_of.ensures)
    (opened c.standing_opens.ensures cells t c.args.p cell c.in_ok-node_form.field-0 (sym c.in_ok-cell.ensures) c.in_ok-node_form.ensures.each h)
