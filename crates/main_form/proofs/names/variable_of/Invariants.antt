use Rattle.std.proofs.Common.{◌≡◌, ◌+◌, drop, map}
use Rattle.std.specs.Prelude.{option_map}
use Rattle.main_form.specs.Names.{number_in, variable_of}
use Rattle.main_form.proofs.names.variable_of.Given as goal

abbrev pub invariant-loop-var : goal.invariant-loop-var
invariant-loop-var l = (l.number ≡ l.var-index) × (variable_of l.main l.name ≡ option_map (λ k. l.number + k) (number_in l.name (map (λ v. v.0) (drop l.var-index l.main.vars))))
