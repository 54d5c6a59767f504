use Rattle.std.proofs.Common.{◌∙◌, refl, []}
use Rattle.str_theory.specs.Forms.{len}
use Rattle.cell_rules.proofs.lengths.of_reverse.Goals as goal

pub returns : goal.returns
returns c = λ t h.
    let o = c.in_ok-c.ensures t h in
    let q = c.in_ok-a.ensures o.0 o.1 in (
      len q.0,
      [],
      o.2 _ ∙ q.2 _,
      (q.0, q.1, refl),
      tt,
    )
