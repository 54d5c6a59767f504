use Rattle.num_theory.proofs.RowMeaning.{rows_follow}
use Rattle.num_theory.proofs.laws.rows_follow.Goals as goal

pub returns : goal.returns
returns c = rows_follow c.same_terms_are_equal.ensures c.equality_is_sameness.ensures
