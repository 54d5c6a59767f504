use Rattle.std.proofs.Common.{◌≡◌}
use Rattle.res_printer.specs.Components.{variable}
use Rattle.res_printer.specs.Pieces.{each}
use Rattle.res_printer.proofs.procedure.write_variables.Given as goal

abbrev pub invariant-loop-variable : goal.invariant-loop-variable
invariant-loop-variable l = each variable l.variables l.initial.out ≡ each variable l.variable-iterator.iter.rest.now l.out
