use Rattle.std.proofs.Common.{◌∙◌, refl, [], ◌∷◌}
use Rattle.str_theory.specs.Forms.{len, less_eq, sub, zero as zero_term}
use Rattle.cell_rules.proofs.lengths.of_part.Goals as goal

pub returns : goal.returns
returns c = λ t h.
    let o = c.in_ok-c.ensures t h in
    let q = c.in_ok-part.ensures o.0 o.1 in
    let i = q.0 in
    let j = q.1 in
    let a = q.2 in (
      sub j i,
      less_eq zero_term i ∷ less_eq i j ∷ less_eq j (len a) ∷ [],
      o.2 _ ∙ q.6 _,
      (j, i, q.4, q.3, refl),
      ((zero_term, i, refl, q.3, refl), ((i, j, q.3, q.4, refl), ((j, len a, q.4, (a, q.5, refl), refl), tt))),
    )
