use Rattle.term_cells.proofs.Kinded.{no_entry, get_past}
use Rattle.term_cells.proofs.kind.kind_of_entry.Goals as goal

pub returns-in-None : goal.returns-in-None
returns-in-None c = no_entry c.args.vars.now c.args.k (get_past c.args.vars.now c.args.k c.in-None.ensures.lookup.3)
