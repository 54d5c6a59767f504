use Rattle.std.proofs.Common.{sym}
use Rattle.term_cells.proofs.FormNumbers.{no_arity}
use Rattle.term_cells.proofs.cell.Cell.arity.Goals as goal

pub returns-in-None : goal.returns-in-None
returns-in-None c = sym (no_arity c.args.self.form (λ f e. let none = c.in-None.ensures.each f e in cc))
