use Rattle.std.proofs.Common.{refl, [], ◌∷◌}
use Rattle.str_theory.specs.Forms.{empty, len, less_eq}
use Rattle.cell_rules.proofs.parts.past_string.Goals as goal

pub returns : goal.returns
returns c = λ t h.
    let o = c.in_ok-part.ensures t h in
    let i = o.0 in
    let a = o.2 in (
      empty,
      less_eq (len a) i ∷ [],
      o.6 _,
      refl,
      ((len a, i, (a, o.5, refl), o.3, refl), tt),
    )
