use Rattle.math_terms.specs.Kinds.{kind}
use Rattle.term_cells.specs.KindShown.{sorts_of_vars}
use Rattle.cell_rows.proofs.Comparing.{number_is}
use Rattle.cell_rows.proofs.sequent.CellSequent.is_number.Goals as goal

pub returns : goal.returns
returns c = λ t h. number_is c.is_number.result (kind (sorts_of_vars c.args.self.now.vars.now) t) (c.is_number.ensures t h)
