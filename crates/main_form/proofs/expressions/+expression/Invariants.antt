use Rattle.std.proofs.Common.{◌≡◌, drop, map}
use Rattle.main_form.specs.Places.{earliest_from, look, Look}
use Rattle.main_form.specs.declared.expressions.Wanted.TheVariants as wanted
use Rattle.main_form.proofs.expressions.+expression.Given as goal

abbrev pub invariant-all_first-loop-e : goal.invariant-all_first-loop-e
invariant-all_first-loop-e l = earliest_from l.first (map (λ (a : Look). a.first wanted.Program) (map (look l.main) (drop l.e-index l.exprs))) ≡ earliest_from l.initial.first (map (λ (a : Look). a.first wanted.Program) (map (look l.main) l.exprs))
