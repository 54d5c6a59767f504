use Rattle.main_prover.proofs.Valid.{proved_valid}
use Rattle.main_prover.proofs.laws.proved_is_valid.Goals as goal

pub returns : goal.returns
returns c =
    proved_valid c.found_is_legal.ensures c.legal_is_valid.ensures c.substitution_keeps_values.ensures c.equality_is_sameness.ensures
