use Rattle.num_theory.proofs.Soundness.{linear_tests_are_sound}
use Rattle.num_theory.proofs.laws.linear_tests_are_sound.Goals as goal

pub returns : goal.returns
returns c = linear_tests_are_sound c.same_terms_are_equal.ensures c.equality_is_sameness.ensures
