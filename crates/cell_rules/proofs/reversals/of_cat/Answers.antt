use Rattle.std.proofs.Common.{◌∙◌, refl, []}
use Rattle.str_theory.specs.Forms.{cat, reversed}
use Rattle.cell_rules.proofs.reversals.of_cat.Goals as goal

pub returns : goal.returns
returns c = λ t h.
    let o = c.in_ok-c.ensures t h in
    let q = c.in_ok-a.ensures o.0 o.1 in (
      cat (reversed q.1) (reversed q.0),
      [],
      o.2 _ ∙ q.4 _,
      (reversed q.1, reversed q.0, (q.1, q.3, refl), (q.0, q.2, refl), refl),
      tt,
    )
