use Rattle.std.proofs.Common.{◌≡◌, map, drop}
use Rattle.math_types.specs.Expressions.{all, checked}
use Rattle.math_types.proofs.Lists.{after}
use Rattle.math_types.proofs.expression.+sort.Given as goal

abbrev pub invariant-sorts_of-loop-e : goal.invariant-sorts_of-loop-e
invariant-sorts_of-loop-e l = all (map (checked l.known l.types) l.exprs) ≡ after l.sorts (all (map (checked l.known l.types) (drop l.e-index l.exprs)))
