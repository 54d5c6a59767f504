use Rattle.math_terms.specs.Heads.{same_term}
use Rattle.vc_prover.proofs.Firsts.{Reached}
use Rattle.vc_prover.proofs.closing.first_same.Given as goal

abbrev pub invariant-loop-at : goal.invariant-loop-at
invariant-loop-at l = Reached (same_term l.f) l.all l.at
