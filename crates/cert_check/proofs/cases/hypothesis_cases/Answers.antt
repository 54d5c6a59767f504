use Rattle.std.proofs.Common.{sym, map, ◌∙◌, ap}
use Rattle.math_terms.specs.Forms.{form_number}
use Rattle.math_terms.specs.Kinds.{sort_of_desc}
use Rattle.cert_check.proofs.Splits.{formless, no_hypothesis, truth_hypothesis, and_hypothesis, or_hypothesis, implies_hypothesis, not_hypothesis, equation_hypothesis}
use Rattle.cert_check.proofs.cases.hypothesis_cases.Goals as goal

pub returns-in-And : goal.returns-in-And
returns-in-And c = λ t standing. and_hypothesis c.two_opens.ensures c.args.cells.now.0 (map (λ v. sort_of_desc v.1) c.args.vars.now) t c.args.p c.in_ok-cell.cell standing (sym c.in_ok-cell.ensures) (c.in_ok-form.ensures.numbered ∙ ap form_number c.in-And.is)

pub returns-in-Or : goal.returns-in-Or
returns-in-Or c = λ t standing. or_hypothesis c.two_opens.ensures c.args.cells.now.0 (map (λ v. sort_of_desc v.1) c.args.vars.now) t c.args.p c.in_ok-cell.cell standing (sym c.in_ok-cell.ensures) (c.in_ok-form.ensures.numbered ∙ ap form_number c.in-Or.is)

pub returns-in-Implies : goal.returns-in-Implies
returns-in-Implies c = λ t standing. implies_hypothesis c.two_opens.ensures c.args.cells.now.0 (map (λ v. sort_of_desc v.1) c.args.vars.now) t c.args.p c.in_ok-cell.cell standing (sym c.in_ok-cell.ensures) (c.in_ok-form.ensures.numbered ∙ ap form_number c.in-Implies.is)

pub returns-in-Not : goal.returns-in-Not
returns-in-Not c = λ t standing. not_hypothesis c.one_opens.ensures c.args.cells.now.0 (map (λ v. sort_of_desc v.1) c.args.vars.now) t c.args.p c.in_ok-cell.cell standing (sym c.in_ok-cell.ensures) (c.in_ok-form.ensures.numbered ∙ ap form_number c.in-Not.is) c.negation_cases.result c.negation_cases.ensures

pub returns-in-Eq : goal.returns-in-Eq
returns-in-Eq c = λ t standing. equation_hypothesis c.two_opens.ensures c.args.cells.now.0 (map (λ v. sort_of_desc v.1) c.args.vars.now) t c.args.p c.in_ok-cell.cell standing (sym c.in_ok-cell.ensures) (c.in_ok-form.ensures.numbered ∙ ap form_number c.in-Eq.is) c.equation_cases.result c.equation_cases.ensures

pub returns-in-Truth : goal.returns-in-Truth
returns-in-Truth c = λ t standing.
    truth_hypothesis c.leaves_open.ensures c.args.cells.now.0 (map (λ v. sort_of_desc v.1) c.args.vars.now) t c.args.p c.in_ok-cell.cell standing (sym c.in_ok-cell.ensures) (c.in_ok-form.ensures.numbered ∙ ap form_number c.in-Truth.is) c.says_true.result c.says_true.ensures c.truth_cases.result c.truth_cases.ensures

pub returns-in_err-form : goal.returns-in_err-form
returns-in_err-form c = λ t standing.
    absurd (formless c.standing_opens.ensures c.args.cells.now.0 (map (λ v. sort_of_desc v.1) c.args.vars.now) t c.args.p c.in_ok-cell.cell standing (sym c.in_ok-cell.ensures) (λ g e. let none = c.in_err-form.ensures.each g e in cc))

pub returns-in_default : goal.returns-in_default
returns-in_default c = λ t standing.
    no_hypothesis c.standing_opens.ensures c.args.cells.now.0 (map (λ v. sort_of_desc v.1) c.args.vars.now) t c.args.p c.in_ok-cell.cell standing (sym c.in_ok-cell.ensures) c.in_ok-form.form c.in_ok-form.ensures.each c.in_default.not-Truth c.in_default.not-Eq c.in_default.not-Not c.in_default.not-And c.in_default.not-Or c.in_default.not-Implies
