use Rattle.std.proofs.Common.{◌≡◌, map, take}
use Rattle.main_form.proofs.file.copy_names.Given as goal

abbrev pub invariant-loop-var : goal.invariant-loop-var
invariant-loop-var l = l.names ≡ map (λ v. v.0) (take l.var-index l.vars)
