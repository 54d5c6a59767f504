use Rattle.std.proofs.Common.{◌∙◌, refl, sym, ap, [], ◌∷◌, subst}
use Rattle.str_theory.specs.Forms.{less_eq, part}
use Rattle.str_theory.specs.Rules.{or_else}
use Rattle.cell_rules.specs.Joining.{before_rest}
use Rattle.cell_rules.specs.Sketches.{ShowAll, ShowsText, listed}
use Rattle.cell_rules.proofs.joins.of_following.Goals as goal

pub returns-in-Some : goal.returns-in-Some
returns-in-Some c = λ t h.
    let o = c.in_ok-left.ensures t h in
    let q = c.in-Some.ensures o.0 o.1 o.2 o.3 in
    let i = q.0 in
    let j = q.1 in
    let l = q.2 in
    let a = q.3 in
    let cells = c.args.cells.now.0 in
    let conditions = less_eq i j ∷ less_eq j l ∷ [] in (
      part i l a,
      conditions,
      o.4 _ ∙ ap (λ g. or_else g (before_rest o.0 o.1)) (q.8 (λ r. r)),
      subst (λ x. ShowsText cells x (part i l a)) (sym c.part.ensures) (i, l, a, q.4, q.6, q.7, refl),
      subst (λ x. ShowAll cells (listed x) conditions) (sym c.bounds.ensures) ((i, j, q.4, q.5, refl), ((j, l, q.5, q.6, refl), tt)),
    )
