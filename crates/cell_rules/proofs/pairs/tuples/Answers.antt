use Rattle.std.proofs.Common.{◌∙◌}
use Rattle.cell_rules.proofs.Paired.{tuple_fewer}
use Rattle.cell_rules.proofs.pairs.tuples.Goals as goal

pub returns : goal.returns
returns c = λ t h.
    let e = c.in_ok-a.ensures t h in
    let l = c.in_ok-left.ensures e.0 e.2 in
    let r = c.in_ok-right.ensures e.1 e.3 in
    (l.0, r.0, l.1, r.1, e.4 _ ∙ l.2 _ ∙ r.2 _, tuple_fewer t e.0 e.1 l.0 e.4 l.2)
