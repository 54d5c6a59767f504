use Rattle.std.proofs.Common.{◌≡◌, [], length}
use Rattle.res_printer.specs.working.Remaining.{remaining}
use Rattle.res_printer.proofs.model.write_rest.Given as goal

abbrev pub invariant-loop : goal.invariant-loop
invariant-loop l = remaining l.initial.pending [] l.initial.out ≡ remaining l.pending [] l.out

abbrev pub decreases-loop : goal.decreases-loop
decreases-loop l = length l.pending
