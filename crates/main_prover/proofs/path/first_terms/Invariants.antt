use Rattle.std.proofs.Common.{◌≡◌, map, pos, take}
use Rattle.main_vcs.specs.Terms as spec
use Rattle.main_prover.proofs.path.first_terms.Given as goal

abbrev pub invariant-loop-name : goal.invariant-loop-name
invariant-loop-name l = l.terms ≡ map (λ n. spec.num (pos 0)) (take l._name-index l.names)
