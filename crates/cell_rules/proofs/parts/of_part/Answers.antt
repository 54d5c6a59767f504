use Rattle.std.proofs.Common.{◌∙◌, refl, [], ◌∷◌}
use Rattle.str_theory.specs.Forms.{add, less_eq, part, zero as zero_term}
use Rattle.cell_rules.proofs.parts.of_part.Goals as goal

pub returns : goal.returns
returns c = λ t h.
    let o = c.in_ok-outer.ensures t h in
    let i = o.0 in
    let j = o.1 in
    let q = c.in_ok-inner.ensures o.2 o.5 in
    let k = q.0 in
    let l = q.1 in
    let a = q.2 in (
      part (add k i) (add k j) a,
      less_eq zero_term k ∷ less_eq zero_term i ∷ less_eq (add k j) l ∷ [],
      o.6 _ ∙ q.6 _,
      (add k i, add k j, a, (k, i, q.3, o.3, refl), (k, j, q.3, o.4, refl), q.5, refl),
      ((zero_term, k, refl, q.3, refl), ((zero_term, i, refl, o.3, refl), ((add k j, l, (k, j, q.3, o.4, refl), q.4, refl), tt))),
    )
