use Rattle.std.proofs.Common.{◌∙◌, refl, []}
use Rattle.str_theory.specs.Forms.{cat}
use Rattle.cell_rules.proofs.concatenations.regrouped.Goals as goal

pub returns : goal.returns
returns c = λ t h.
    let o = c.in_ok-ab.ensures t h in
    let q = c.in_ok-a.ensures o.0 o.2 in (
      cat q.0 (cat q.1 o.1),
      [],
      o.4 _ ∙ q.4 _,
      (q.0, q.1, o.1, q.2, q.3, o.3, refl),
      tt,
    )
