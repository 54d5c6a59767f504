use Rattle.std.proofs.Common.{refl, subst}
use Rattle.term_cells.specs.declared.cell.Cell.{Cell}
use Rattle.term_cells.specs.Growing.{Pushes}
use Rattle.cell_rules.proofs.Linking.{link_pushed}
use Rattle.cell_rules.proofs.children.link.Goals as goal

pub returns-clause-standing : goal.returns-clause-standing
returns-clause-standing c =
    link_pushed c.standing_lasts.ensures c.parts_last.ensures c.stands_below_next.ensures _ _ _ _
    (subst (λ (d : Cell). Pushes c.args.cells.now c.push.new.self d c.push.result) c.link.ensures c.push.ensures) refl
