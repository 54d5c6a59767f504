use Rattle.std.proofs.Common.{◌≡◌, drop}
use Rattle.res_printer.specs.working.Remaining.{opened_more}
use Rattle.res_printer.proofs.model.push_more.Given as goal

abbrev pub invariant-loop-name : goal.invariant-loop-name
invariant-loop-name l = opened_more l.names l.initial.pending ≡ opened_more (drop l.name-index l.names) l.pending
