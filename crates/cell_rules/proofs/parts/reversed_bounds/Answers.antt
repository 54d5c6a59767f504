use Rattle.std.proofs.Common.{refl, [], ◌∷◌}
use Rattle.str_theory.specs.Forms.{empty, less_eq}
use Rattle.cell_rules.proofs.parts.reversed_bounds.Goals as goal

pub returns : goal.returns
returns c = λ t h.
    let o = c.in_ok-part.ensures t h in
    let i = o.0 in
    let j = o.1 in (
      empty,
      less_eq j i ∷ [],
      o.6 _,
      refl,
      ((j, i, o.4, o.3, refl), tt),
    )
