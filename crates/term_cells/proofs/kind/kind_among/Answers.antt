use Rattle.term_cells.proofs.Kinded.{no_desc, get_past}
use Rattle.term_cells.proofs.kind.kind_among.Goals as goal

pub returns-in-None : goal.returns-in-None
returns-in-None c = no_desc c.args.descs.now c.args.k (get_past c.args.descs.now c.args.k c.in-None.ensures.lookup.3)
