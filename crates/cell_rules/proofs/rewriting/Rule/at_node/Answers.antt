use Rattle.std.proofs.Common.{[], Ok, arith, subst, sym}
use Rattle.term_cells.specs.KindShown.{sorts_of_vars}
use Rattle.str_theory.specs.Rules.{rule}
use Rattle.cell_rules.specs.Pairing.{FormulaStands}
use Rattle.cell_rules.proofs.Answered.{sketched}
use Rattle.cell_rules.proofs.Kept.{grows_more, if_err_then, short_more}
use Rattle.cell_rules.proofs.rewriting.Rule.at_node.Goals as goal

pub returns-then-not-is_equation-clause-exact : goal.returns-then-not-is_equation-clause-exact
returns-then-not-is_equation-clause-exact c = λ f t fact h answered.
    c.apply.ensures.exact f t fact h (sketched c.args.self.number answered c.if-not-is_equation.ensures)

pub returns-then-not-is_equation-clause-grown : goal.returns-then-not-is_equation-clause-grown
returns-then-not-is_equation-clause-grown c = λ t h. grows_more _ _ _ _ c.apply.ensures.grown (omega arith)

pub returns-then-not-is_equation-clause-short : goal.returns-then-not-is_equation-clause-short
returns-then-not-is_equation-clause-short c = λ t h. if_err_then c.apply.result (λ s. short_more _ _ _ s (omega arith)) c.apply.ensures.short

pub returns-in-Some-clause-exact : goal.returns-in-Some-clause-exact
returns-in-Some-clause-exact c = λ f t fact h answered.
    let given = rule (sorts_of_vars c.args.vars.now) f c.args.self.number t in
    let e = subst (λ r. FormulaStands c.equation.new.cells.0 given (Ok r)) c.in-Some.is (c.in_ok-place.ensures.exact f t h (sym c.if-not-is_equation.ensures)) in
    ((e.0, []), e.1, (e.2, tt))

pub returns-in-None-clause-exact : goal.returns-in-None-clause-exact
returns-in-None-clause-exact c = λ f t fact h answered.
    let given = rule (sorts_of_vars c.args.vars.now) f c.args.self.number t in
    subst (λ r. FormulaStands c.equation.new.cells.0 given (Ok r)) c.in-None.is (c.in_ok-place.ensures.exact f t h (sym c.if-not-is_equation.ensures))
