use Rattle.term_cells.specs.KindShown.{sorts_of_vars}
use Rattle.cell_rules.proofs.Chained.{are_chains, no_strings, not_filled}
use Rattle.cell_rules.proofs.chains.strings.Goals as goal

pub returns-then-not-are_strings : goal.returns-then-not-are_strings
returns-then-not-are_strings c = λ t h.
    let e = c.in_ok-left.ensures t h in
    no_strings (sorts_of_vars c.args.vars.now) t e.0 e.1 e.4 (c.if-not-are_strings.ensures e.0 e.1 e.2 e.3)

pub returns-then-not-are_filled : goal.returns-then-not-are_filled
returns-then-not-are_filled c = λ t h.
    let e = c.in_ok-left.ensures t h in
    not_filled (sorts_of_vars c.args.vars.now) t e.0 e.1 e.4 (c.if-not-are_strings.ensures e.0 e.1 e.2 e.3) (c.if-not-are_filled.ensures e.0 e.1 e.2 e.3)

pub returns : goal.returns
returns c = λ t h.
    let e = c.in_ok-left.ensures t h in
    are_chains (sorts_of_vars c.args.vars.now) t e.0 e.1 e.4 c.chains_open.ensures (c.if-not-are_strings.ensures e.0 e.1 e.2 e.3) (c.if-not-are_filled.ensures e.0 e.1 e.2 e.3) c.args.cells.now.0 _ e.2 e.3
