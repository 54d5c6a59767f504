use Rattle.std.proofs.Common.{◌≡◌, map, take}
use Rattle.main_prover.proofs.variables.zeros.Given as goal

abbrev pub invariant-loop-name : goal.invariant-loop-name
invariant-loop-name l = l.out ≡ map (λ n. 0) (take l._name-index l.names)
