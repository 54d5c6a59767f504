use Rattle.std.proofs.Common.{[], ◌∷◌}
use Rattle.cell_rules.proofs.Kept.{all_put, bound_kept, kept}
use Rattle.cell_rules.proofs.making.put_both.Goals as goal

pub returns-clause-standing : goal.returns-clause-standing
returns-clause-standing c =
    let law = c.standing_lasts.ensures in
    all_put _ _ (c.args.first ∷ c.args.second ∷ []) (c.in_ok-p.p ∷ c.in_ok-q.q ∷ []) (
      (λ t h. kept law _ _ _ c.in_ok-q.ensures.grown t _ (c.in_ok-p.ensures.standing t h)),
      ((λ t h. c.in_ok-q.ensures.standing t (bound_kept law _ _ _ c.in_ok-p.ensures.grown c.args.second t h)), tt),
    )
