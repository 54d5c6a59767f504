use Rattle.std.proofs.Common.{◌∙◌, refl, sym, ap, [], ◌∷◌}
use Rattle.str_theory.specs.Forms.{cat, less_eq, part, when}
use Rattle.str_theory.specs.Rules.{gives_if}
use Rattle.cell_rules.proofs.known.around.Goals as goal

pub returns : goal.returns
returns c = λ t s m h g f.
    let o = c.in_ok-outer.ensures t h in
    let e = c.in_ok-_element.ensures s g in
    let q = c.in_ok-inner.ensures m f in
    let i = o.0 in
    let j = o.1 in
    let a = o.2 in
    let k = q.0 in
    let l = q.1 in
    let conditions = less_eq i k ∷ less_eq k l ∷ less_eq l j ∷ [] in
    let new = cat (part i k a) (cat s (part l j a)) in (
      new,
      conditions,
      o.6 _ ∙ e.2 _ ∙ q.6 _ ∙ ap (λ b. when b (gives_if conditions new)) (sym (c.if-not-is_same.ensures a q.2 o.5 q.5)),
      (part i k a, s, part l j a, (i, k, a, o.3, q.3, o.5, refl), g, (l, j, a, q.4, o.4, o.5, refl), refl),
      ((i, k, o.3, q.3, refl), ((k, l, q.3, q.4, refl), ((l, j, q.4, o.4, refl), tt))),
    )
