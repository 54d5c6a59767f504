use Rattle.std.proofs.Common.{◌≡◌}
use Rattle.res_printer.specs.Pieces.{each}
use Rattle.res_printer.proofs.print.print_each.Given as goal

abbrev pub invariant-loop-item : goal.invariant-loop-item
invariant-loop-item g l = each g.T.Print.piece l.items l.initial.out ≡ each g.T.Print.piece l.item-iterator.iter.rest.now l.out
