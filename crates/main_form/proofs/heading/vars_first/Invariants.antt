use Rattle.std.proofs.Common.{◌≡◌, drop, map}
use Rattle.main_form.specs.Places.{earliest_from, var_first, vars_first}
use Rattle.main_form.proofs.heading.vars_first.Given as goal

abbrev pub invariant-loop-var : goal.invariant-loop-var
invariant-loop-var l = earliest_from l.first (map var_first (drop l.var-index l.main.vars)) ≡ vars_first l.main
