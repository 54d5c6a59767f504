use Rattle.std.proofs.Common.{◌∙◌, sym}
use Rattle.math_terms.proofs.Clashes.{unsorted}
use Rattle.math_terms.proofs.Walks.{sorting_sort}
use Rattle.math_terms.proofs.sorts.sort_of.Goals as goal

pub returns-in-Ok-clause-found : goal.returns-in-Ok-clause-found
returns-in-Ok-clause-found c = sym (sorting_sort c.args.vars.now c.args.t.now) ∙ c.in-Ok.ensures.0

pub returns-in-Err-clause-none : goal.returns-in-Err-clause-none
returns-in-Err-clause-none c = unsorted c.args.vars.now c.args.t.now c.in-Err.e c.in-Err.ensures
