use Rattle.std.proofs.Common.{arith}
use Rattle.std.proofs.lemmas.Grind.{common_steps}
use Rattle.num_theory.proofs.Listing.{listed_more}
use Rattle.num_theory.proofs.texts.+write.Goals as goal

pub write_listed-loop-k-preserved : goal.write_listed-loop-k-preserved
write_listed-loop-k-preserved t c =
    let more = listed_more c.args.parts.now c.loop-k.k c.index-parts-k.result (omega arith) c.index-parts-k.is in
    grind (arith, common_steps, more)
