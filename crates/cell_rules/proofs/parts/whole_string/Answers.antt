use Rattle.std.proofs.Common.{refl, [], ◌∷◌}
use Rattle.str_theory.specs.Forms.{len, less_eq, zero as zero_term}
use Rattle.cell_rules.proofs.parts.whole_string.Goals as goal

pub returns : goal.returns
returns c = λ t h.
    let o = c.in_ok-part.ensures t h in
    let i = o.0 in
    let j = o.1 in
    let a = o.2 in (
      a,
      less_eq i zero_term ∷ less_eq (len a) j ∷ [],
      o.6 _,
      o.5,
      ((i, zero_term, o.3, refl, refl), ((len a, j, (a, o.5, refl), o.4, refl), tt)),
    )
