use Rattle.std.proofs.Common.{◌∙◌, refl, sym, [], ◌∷◌, subst}
use Rattle.str_theory.specs.Forms.{cat, less_eq, part}
use Rattle.cell_rules.specs.Sketches.{ShowAll, ShowsText, listed}
use Rattle.cell_rules.proofs.joins.before_rest.Goals as goal

pub returns : goal.returns
returns c = λ t u h g.
    let o = c.in_ok-next.ensures u g in
    let q = c.in_ok-joint.ensures t o.0 h o.2 in
    let i = q.0 in
    let j = q.1 in
    let l = q.2 in
    let a = q.3 in
    let cells = c.args.cells.now.0 in
    let conditions = less_eq i j ∷ less_eq j l ∷ [] in (
      cat (part i l a) o.1,
      conditions,
      o.4 _ ∙ q.8 (λ x. cat x o.1),
      (part i l a, o.1, subst (λ x. ShowsText cells x (part i l a)) (sym c.part.ensures) (i, l, a, q.4, q.6, q.7, refl), o.3, refl),
      subst (λ x. ShowAll cells (listed x) conditions) (sym c.bounds.ensures) ((i, j, q.4, q.5, refl), ((j, l, q.5, q.6, refl), tt)),
    )
