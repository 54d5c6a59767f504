use Rattle.math_terms.proofs.WellSorted.{sorted_are_well}
use Rattle.math_terms.proofs.laws.sorted_are_well.Goals as goal

pub returns : goal.returns
returns c = sorted_are_well
