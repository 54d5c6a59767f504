use Rattle.std.proofs.Common.{◌∙◌, refl, []}
use Rattle.str_theory.specs.Forms.{add, len}
use Rattle.cell_rules.proofs.lengths.of_cat.Goals as goal

pub returns : goal.returns
returns c = λ t h.
    let o = c.in_ok-c.ensures t h in
    let q = c.in_ok-a.ensures o.0 o.1 in (
      add (len q.0) (len q.1),
      [],
      o.2 _ ∙ q.4 _,
      (len q.0, len q.1, (q.0, q.2, refl), (q.1, q.3, refl), refl),
      tt,
    )
