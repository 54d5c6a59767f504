use Rattle.std.proofs.Common.{◌∙◌, refl, []}
use Rattle.str_theory.specs.Forms.{len, part, reversed, sub}
use Rattle.cell_rules.proofs.parts.of_reverse.Goals as goal

pub returns : goal.returns
returns c = λ t h.
    let o = c.in_ok-part.ensures t h in
    let i = o.0 in
    let j = o.1 in
    let q = c.in_ok-a.ensures o.2 o.5 in
    let a = q.0 in (
      reversed (part (sub (len a) j) (sub (len a) i) a),
      [],
      o.6 _ ∙ q.2 _,
      (part (sub (len a) j) (sub (len a) i) a, (sub (len a) j, sub (len a) i, a, (len a, j, (a, q.1, refl), o.4, refl), (len a, i, (a, q.1, refl), o.3, refl), q.1, refl), refl),
      tt,
    )
