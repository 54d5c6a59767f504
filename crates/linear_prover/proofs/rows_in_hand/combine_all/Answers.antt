use Rattle.std.proofs.Common.{sym, subst, arith}
use Rattle.std.specs.List.{All}
use Rattle.linear_prover.specs.Elimination.{Numbered}
use Rattle.linear_prover.specs.working.Eliminating.{CanCombine}
use Rattle.linear_prover.proofs.rows_in_hand.combine_all.Goals as goal

pub combine_one-requires : goal.combine_one-requires
combine_one-requires c = subst (λ (a : Numbered). All (CanCombine a) c.args.below.now) (sym c.a-item.is) (c.requires c.loop-a.a-index c.a-item.result (omega arith))
