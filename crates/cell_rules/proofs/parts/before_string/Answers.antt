use Rattle.std.proofs.Common.{refl, [], ◌∷◌}
use Rattle.str_theory.specs.Forms.{empty, less_eq, zero as zero_term}
use Rattle.cell_rules.proofs.parts.before_string.Goals as goal

pub returns : goal.returns
returns c = λ t h.
    let o = c.in_ok-part.ensures t h in
    let j = o.1 in (
      empty,
      less_eq j zero_term ∷ [],
      o.6 _,
      refl,
      ((j, zero_term, o.4, refl, refl), tt),
    )
