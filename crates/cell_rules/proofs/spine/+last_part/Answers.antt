use Rattle.std.proofs.Common.{◌∙◌, ap}
use Rattle.str_theory.specs.Chains.{chain}
use Rattle.term_cells.specs.Standing.{stands}
use Rattle.cell_rules.proofs.Chained.{few_last, rest_last}
use Rattle.cell_rules.proofs.spine.+last_part.Goals as goal

pub returns-in-Some : goal.returns-in-Some
returns-in-Some m c = λ t h.
    let r = c.in-Some.ensures.longer t h in
    ap (λ u. stands c.args.cells.now.0 u c.last_part.result) (rest_last c.args.cells.now.0 t _ r) ∙ c.last_part.ensures r.rest r.rest_stands

pub returns-in-None : goal.returns-in-None
returns-in-None m c = λ t h.
    ap (λ u. stands c.args.cells.now.0 u c.first_part.result) (few_last (chain t) (c.in-None.ensures.longer t h)) ∙ c.first_part.ensures t h
