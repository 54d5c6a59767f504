use Rattle.std.proofs.Common.{arith}
use Rattle.std.proofs.lemmas.Grind.{common_steps}
use Rattle.vc_sequents.proofs.Placing.{in_place-parts}
use Rattle.vc_sequents.proofs.splitting.in_place.Goals as goal

pub returns : goal.returns
returns c = let e = in_place-parts c.args.k c.args.new c.args.hyps.now c.requires in grind (arith, common_steps)
