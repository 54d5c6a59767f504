use Rattle.std.proofs.Common.{◌∙◌, refl, []}
use Rattle.str_theory.specs.Forms.{cat, len, part, sub}
use Rattle.cell_rules.proofs.parts.of_cat.Goals as goal

pub returns : goal.returns
returns c = λ t h.
    let o = c.in_ok-part.ensures t h in
    let i = o.0 in
    let j = o.1 in
    let q = c.in_ok-a.ensures o.2 o.5 in
    let a = q.0 in
    let b = q.1 in (
      cat (part i j a) (part (sub i (len a)) (sub j (len a)) b),
      [],
      o.6 _ ∙ q.4 _,
      (part i j a, part (sub i (len a)) (sub j (len a)) b, (i, j, a, o.3, o.4, q.2, refl), (sub i (len a), sub j (len a), b, (i, len a, o.3, (a, q.2, refl), refl), (j, len a, o.4, (a, q.2, refl), refl), q.3, refl), refl),
      tt,
    )
