use Rattle.std.proofs.Common.{refl}
use Rattle.term_cells.proofs.Building.{pushes_as}
use Rattle.term_cells.proofs.Loading.{remainder_pushed}
use Rattle.term_cells.proofs.cells.Cells.remainder.Goals as goal

pub returns-clause-node : goal.returns-clause-node
returns-clause-node c =
    remainder_pushed _ _ _ _ _ _ _ c.in_ok-quotient.ensures.pushed (pushes_as _ _ _ _ _ c.node.ensures c.push.ensures) refl refl refl refl refl refl refl
