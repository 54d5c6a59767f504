use Rattle.cell_rules.specs.Sketches.{listed}
use Rattle.cell_rules.proofs.Kept.{all_kept, kept}
use Rattle.cell_rules.proofs.making.put_sketch.Goals as goal

pub returns-clause-standing : goal.returns-clause-standing
returns-clause-standing c = λ t ts h g.
    let law = c.standing_lasts.ensures in (
      kept law _ _ _ c.in_ok-conditions.ensures.grown t _ (c.in_ok-place.ensures.standing t h),
      c.in_ok-conditions.ensures.standing ts (all_kept law _ _ _ c.in_ok-place.ensures.grown (listed c.args.sketch.bounds) ts g),
    )
