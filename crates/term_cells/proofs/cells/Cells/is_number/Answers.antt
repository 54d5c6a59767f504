use Rattle.math_terms.specs.Kinds.{kind}
use Rattle.term_cells.specs.KindShown.{sorts_of_vars}
use Rattle.term_cells.proofs.Comparing.{no}
use Rattle.term_cells.proofs.Kinded.{no_number}
use Rattle.term_cells.proofs.cells.Cells.is_number.Goals as goal

pub returns-in_default : goal.returns-in_default
returns-in_default c = λ t h.
    let sorts = sorts_of_vars c.args.vars.now in
    no _ _ (no_number c.args.self.now.0 sorts c.kind_of.result (kind sorts t) c.in_default.not-Number (c.kind_of.ensures.shown t h))
