use Rattle.cert_check.specs.Legality.{is_false}
use Rattle.vc_prover.proofs.Firsts.{Reached}
use Rattle.vc_prover.proofs.closing.first_false.Given as goal

abbrev pub invariant-loop-at : goal.invariant-loop-at
invariant-loop-at l = Reached (is_false) l.all l.at
