use Rattle.std.proofs.Common.{subst, sym}
use Rattle.math_terms.specs.Kinds.{kind}
use Rattle.term_cells.specs.declared.kind.Kind.{Kind}
use Rattle.term_cells.specs.KindShown.{Shows, sorts_of_vars}
use Rattle.term_cells.proofs.Kinded.{no_string}
use Rattle.term_cells.proofs.cells.Cells.is_string.Goals as goal

pub returns-in-Text : goal.returns-in-Text
returns-in-Text c = λ t h.
    let sorts = sorts_of_vars c.args.vars.now in
    sym (subst (λ (k : Kind). Shows c.args.self.now.0 sorts k (kind sorts t)) c.in-Text.is (c.kind_of.ensures.shown t h))

pub returns-in_default : goal.returns-in_default
returns-in_default c = λ t h.
    let sorts = sorts_of_vars c.args.vars.now in
    no_string c.args.self.now.0 sorts c.kind_of.result (kind sorts t) c.in_default.not-Text (c.kind_of.ensures.shown t h)
