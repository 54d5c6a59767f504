use Rattle.std.proofs.Common.{refl}
use Rattle.math_terms.specs.declared.term.Term.TheViews.{out-Term}
use Rattle.str_theory.specs.Positions.{around}
use Rattle.cell_rules.specs.Giving.{places}
use Rattle.cell_rules.proofs.Kept.{all_stay}
use Rattle.cell_rules.proofs.rewriting.around.Goals as goal

pub returns-in-Some-clause-standing : goal.returns-in-Some-clause-standing
returns-in-Some-clause-standing c = λ t u x h f s.
    (around c.args.k (out-Term t) x, refl, (c.in-Some.ensures.standing t u x.0 h f s.0, all_stay c.standing_lasts.ensures _ _ _ c.in-Some.ensures.grown x.1 (places c.args.inner.conditions) s.1))
