use Rattle.std.proofs.Common.{◌∙◌, sym, arith}
use Rattle.num_theory.proofs.Listing.{before_past}
use Rattle.num_theory.proofs.texts.stands_before.Goals as goal

pub returns-then-k-b : goal.returns-then-k-b
returns-then-k-b c = sym (c.loop-k.invariant.rest ∙ before_past c.args.a.now c.args.b.now c.loop-k.k (omega arith) (omega arith))
