use Rattle.std.proofs.Common.{sym}
use Rattle.cell_rules.proofs.Chained.{cat_few, cat_longer, single_few}
use Rattle.cell_rules.proofs.spine.longer.Goals as goal

pub returns-in_default-clause-longer : goal.returns-in_default-clause-longer
returns-in_default-clause-longer c = λ t h. single_few c.chains_open.ensures t (c.in_default.ensures.sides t h)

pub returns-then-holds_empty-clause-longer : goal.returns-then-holds_empty-clause-longer
returns-then-holds_empty-clause-longer c = λ t h.
    let s = c.in-Some.ensures.sides t h in
    cat_few c.chains_open.ensures t s.0 s.1 s.2 (sym (c.if-holds_empty.ensures s.1 s.4))

pub returns-clause-longer : goal.returns-clause-longer
returns-clause-longer c = λ t h.
    let s = c.in-Some.ensures.sides t h in
    cat_longer c.chains_open.ensures c.args.cells.now.0 t s.0 s.1 _ s.2 (sym (c.if-holds_empty.ensures s.1 s.4)) s.3 s.4
