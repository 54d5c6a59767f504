use Rattle.std.proofs.Common.{arith}
use Rattle.std.proofs.lemmas.Grind.{common_steps}
use Rattle.num_theory.proofs.Magnitudes.{greatest_more}
use Rattle.num_theory.proofs.row.largest.Goals as goal

pub loop-number-preserved : goal.loop-number-preserved
loop-number-preserved c = grind (arith, common_steps, greatest_more)
