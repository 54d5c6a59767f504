use Rattle.cert_check.proofs.Legal.{legal_is_valid}
use Rattle.cert_check.proofs.laws.legal_is_valid.Goals as goal

pub returns : goal.returns
returns c = legal_is_valid c.equality_is_sameness.ensures c.same_terms_are_equal.ensures c.linear_tests_are_sound.ensures c.splits_keep_validity.ensures
