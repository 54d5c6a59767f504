use Rattle.std.proofs.Common.{◌∙◌, ap}
use Rattle.term_cells.specs.Standing.{stands}
use Rattle.cell_rules.proofs.Chained.{cat_first, single_first}
use Rattle.cell_rules.proofs.spine.first_part.Goals as goal

pub returns-in-Some : goal.returns-in-Some
returns-in-Some c = λ t h.
    let s = c.in-Some.ensures.sides t h in
    ap (λ u. stands c.args.cells.now.0 u c.in-Some.first) (cat_first c.chains_open.ensures t s.0 s.1 s.2) ∙ s.3

pub returns-in-None : goal.returns-in-None
returns-in-None c = λ t h. ap (λ u. stands c.args.cells.now.0 u c.args.p) (single_first c.chains_open.ensures t (c.in-None.ensures.sides t h)) ∙ h
