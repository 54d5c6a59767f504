use Rattle.std.proofs.Common.{w64, rules}
use Rattle.std.proofs.lemmas.Int.{to_z-of_z}
use Rattle.term_cells.proofs.Building.{leaf_pushed, pushes_node}
use Rattle.term_cells.proofs.cells.Cells.leaf.Goals as goal

pub returns-clause-node : goal.returns-clause-node
returns-clause-node c = leaf_pushed _ _ _ _ (pushes_node _ _ _ _ _ _ _ _ _ _ c.node.ensures (to_z-of_z w64 c.args.own (search rules)) c.push.ensures)
