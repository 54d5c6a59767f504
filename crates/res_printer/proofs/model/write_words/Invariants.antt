use Rattle.std.proofs.Common.{◌≤◌, length}
use Rattle.res_printer.specs.working.Remaining.{Stays}
use Rattle.res_printer.proofs.model.write_words.Given as goal

abbrev pub invariant-loop-item : goal.invariant-loop-item
invariant-loop-item l = Stays l.initial.pending l.initial.out l.pending l.out × (length l.pending ≤ length l.initial.pending)

abbrev pub decreases-loop-item : goal.decreases-loop-item
decreases-loop-item l = length l.pending
