use Rattle.term_cells.proofs.Building.{two_pushed, pushes_as}
use Rattle.term_cells.proofs.cells.Cells.two.Goals as goal

pub returns-clause-node : goal.returns-clause-node
returns-clause-node c = two_pushed _ _ _ _ (pushes_as _ _ _ _ _ c.node.ensures c.push.ensures)
