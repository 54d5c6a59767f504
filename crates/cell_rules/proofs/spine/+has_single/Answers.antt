use Rattle.std.proofs.Common.{◌∙◌, sym, ◌||◌}
use Rattle.std.specs.List.{list_any}
use Rattle.str_theory.specs.Chains.{chain, is_single}
use Rattle.cell_rules.proofs.Chained.{any_cat, any_other}
use Rattle.cell_rules.proofs.spine.+has_single.Goals as goal

pub returns-in-None : goal.returns-in-None
returns-in-None m c = λ t h. c.holds_single-in-None.ensures t h ∙ any_other c.chains_open.ensures t (c.in-None.ensures.sides t h)

pub returns-then-holds_single : goal.returns-then-holds_single
returns-then-holds_single m c = λ t h.
    let s = c.in-Some.ensures.sides t h in
    c.if-holds_single.true ∙ (λ i. c.if-holds_single.ensures s.0 s.3 i || list_any is_single (chain s.1)) ∙ sym (any_cat c.chains_open.ensures t s.0 s.1 s.2)

pub returns-else-holds_single : goal.returns-else-holds_single
returns-else-holds_single m c = λ t h.
    let s = c.in-Some.ensures.sides t h in
    (λ i. c.if-holds_single.ensures s.0 s.3 i || c.has_single.ensures s.1 s.4 i) ∙ sym (any_cat c.chains_open.ensures t s.0 s.1 s.2)
