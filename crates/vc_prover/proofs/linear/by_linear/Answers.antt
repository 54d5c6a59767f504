use Rattle.std.proofs.Common.{◌∙◌}
use Rattle.vc_prover.proofs.Choosing.{table_is}
use Rattle.vc_prover.proofs.linear.by_linear.Goals as goal

pub by_table-requires-clause-table : goal.by_table-requires-clause-table
by_table-requires-clause-table c =
    table_is c.args.s.now c.args.sorts.now c.as_slice.result.now c.in-Ok.table c.requires.sorts_of_vars (c.as_slice.ensures ∙ c.in_ok-formulas.ensures) c.in-Ok.ensures.exact c.in-Ok.ensures.table
