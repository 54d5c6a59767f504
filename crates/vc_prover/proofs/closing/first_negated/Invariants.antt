use Rattle.cert_check.specs.Legality.{is_negation_of}
use Rattle.vc_prover.proofs.Firsts.{Reached}
use Rattle.vc_prover.proofs.closing.first_negated.Given as goal

abbrev pub invariant-loop-at : goal.invariant-loop-at
invariant-loop-at l = Reached ((λ f. is_negation_of f l.g)) l.all l.at
