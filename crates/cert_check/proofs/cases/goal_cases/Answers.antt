use Rattle.std.proofs.Common.{sym, map, ◌∙◌, ap}
use Rattle.math_terms.specs.Forms.{form_number}
use Rattle.math_terms.specs.Kinds.{sort_of_desc}
use Rattle.cert_check.proofs.Splits.{formless, no_goal, and_goal, or_goal, implies_goal, not_goal, equation_goal}
use Rattle.cert_check.proofs.cases.goal_cases.Goals as goal

pub returns-in-And : goal.returns-in-And
returns-in-And c = λ t standing. and_goal c.two_opens.ensures c.args.cells.now.0 (map (λ v. sort_of_desc v.1) c.args.vars.now) t c.args.p c.in_ok-cell.cell standing (sym c.in_ok-cell.ensures) (c.in_ok-form.ensures.numbered ∙ ap form_number c.in-And.is)

pub returns-in-Or : goal.returns-in-Or
returns-in-Or c = λ t standing. or_goal c.two_opens.ensures c.args.cells.now.0 (map (λ v. sort_of_desc v.1) c.args.vars.now) t c.args.p c.in_ok-cell.cell standing (sym c.in_ok-cell.ensures) (c.in_ok-form.ensures.numbered ∙ ap form_number c.in-Or.is)

pub returns-in-Implies : goal.returns-in-Implies
returns-in-Implies c = λ t standing. implies_goal c.two_opens.ensures c.args.cells.now.0 (map (λ v. sort_of_desc v.1) c.args.vars.now) t c.args.p c.in_ok-cell.cell standing (sym c.in_ok-cell.ensures) (c.in_ok-form.ensures.numbered ∙ ap form_number c.in-Implies.is)

pub returns-in-Not : goal.returns-in-Not
returns-in-Not c = λ t standing. not_goal c.one_opens.ensures c.args.cells.now.0 (map (λ v. sort_of_desc v.1) c.args.vars.now) t c.args.p c.in_ok-cell.cell standing (sym c.in_ok-cell.ensures) (c.in_ok-form.ensures.numbered ∙ ap form_number c.in-Not.is)

pub returns-in-Eq : goal.returns-in-Eq
returns-in-Eq c = λ t standing. equation_goal c.two_opens.ensures c.args.cells.now.0 (map (λ v. sort_of_desc v.1) c.args.vars.now) t c.args.p c.in_ok-cell.cell standing (sym c.in_ok-cell.ensures) (c.in_ok-form.ensures.numbered ∙ ap form_number c.in-Eq.is) c.equal_goals.result c.equal_goals.ensures

pub returns-in_err-form : goal.returns-in_err-form
returns-in_err-form c = λ t standing.
    absurd (formless c.standing_opens.ensures c.args.cells.now.0 (map (λ v. sort_of_desc v.1) c.args.vars.now) t c.args.p c.in_ok-cell.cell standing (sym c.in_ok-cell.ensures) (λ g e. let none = c.in_err-form.ensures.each g e in cc))

pub returns-in_default : goal.returns-in_default
returns-in_default c = λ t standing.
    no_goal c.standing_opens.ensures c.args.cells.now.0 (map (λ v. sort_of_desc v.1) c.args.vars.now) t c.args.p c.in_ok-cell.cell standing (sym c.in_ok-cell.ensures) c.in_ok-form.form c.in_ok-form.ensures.each c.in_default.not-Eq c.in_default.not-Not c.in_default.not-And c.in_default.not-Or c.in_default.not-Implies
