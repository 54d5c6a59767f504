use Rattle.term_cells.proofs.ByForm.{quotient_stands_there}
use Rattle.term_cells.proofs.laws.quotient_stands.Goals as goal

pub returns : goal.returns
returns c = quotient_stands_there
