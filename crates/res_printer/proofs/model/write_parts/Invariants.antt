use Rattle.std.proofs.Common.{◌≡◌, []}
use Rattle.res_printer.specs.Models.{finished}
use Rattle.res_printer.specs.working.Remaining.{remaining}
use Rattle.res_printer.proofs.model.write_parts.Given as goal

abbrev pub invariant-loop-part : goal.invariant-loop-part
invariant-loop-part l =
    remaining l.initial.pending (finished l.parts []) l.initial.out ≡ remaining l.pending (finished l.part-iterator.iter.rest.now []) l.out
