use Rattle.std.proofs.Common.{not, sym, ap, map, ◌∙◌}
use Rattle.math_terms.specs.Forms.{form_number}
use Rattle.math_terms.specs.Kinds.{sort_of_desc}
use Rattle.cert_check.proofs.Splits.{formless, no_negation, truth_negation, not_negation, and_negation, or_negation, implies_negation, less_eq_negation, less_negation, equation_negation}
use Rattle.cert_check.proofs.cases.negation_cases.Goals as goal

pub returns-in-Not : goal.returns-in-Not
returns-in-Not c = λ t standing. not_negation c.one_opens.ensures c.args.cells.now.0 (map (λ v. sort_of_desc v.1) c.args.vars.now) t c.args.p c.in_ok-cell.cell standing (sym c.in_ok-cell.ensures) (c.in_ok-form.ensures.numbered ∙ ap form_number c.in-Not.is)

pub returns-in-And : goal.returns-in-And
returns-in-And c = λ t standing. and_negation c.two_opens.ensures c.args.cells.now.0 (map (λ v. sort_of_desc v.1) c.args.vars.now) t c.args.p c.in_ok-cell.cell standing (sym c.in_ok-cell.ensures) (c.in_ok-form.ensures.numbered ∙ ap form_number c.in-And.is)

pub returns-in-Or : goal.returns-in-Or
returns-in-Or c = λ t standing. or_negation c.two_opens.ensures c.args.cells.now.0 (map (λ v. sort_of_desc v.1) c.args.vars.now) t c.args.p c.in_ok-cell.cell standing (sym c.in_ok-cell.ensures) (c.in_ok-form.ensures.numbered ∙ ap form_number c.in-Or.is)

pub returns-in-Implies : goal.returns-in-Implies
returns-in-Implies c = λ t standing. implies_negation c.two_opens.ensures c.args.cells.now.0 (map (λ v. sort_of_desc v.1) c.args.vars.now) t c.args.p c.in_ok-cell.cell standing (sym c.in_ok-cell.ensures) (c.in_ok-form.ensures.numbered ∙ ap form_number c.in-Implies.is)

pub returns-in-LessEq : goal.returns-in-LessEq
returns-in-LessEq c = λ t standing. less_eq_negation c.two_opens.ensures c.args.cells.now.0 (map (λ v. sort_of_desc v.1) c.args.vars.now) t c.args.p c.in_ok-cell.cell standing (sym c.in_ok-cell.ensures) (c.in_ok-form.ensures.numbered ∙ ap form_number c.in-LessEq.is)

pub returns-in-Less : goal.returns-in-Less
returns-in-Less c = λ t standing. less_negation c.two_opens.ensures c.args.cells.now.0 (map (λ v. sort_of_desc v.1) c.args.vars.now) t c.args.p c.in_ok-cell.cell standing (sym c.in_ok-cell.ensures) (c.in_ok-form.ensures.numbered ∙ ap form_number c.in-Less.is)

pub returns-in-Eq : goal.returns-in-Eq
returns-in-Eq c = λ t standing. equation_negation c.two_opens.ensures c.args.cells.now.0 (map (λ v. sort_of_desc v.1) c.args.vars.now) t c.args.p c.in_ok-cell.cell standing (sym c.in_ok-cell.ensures) (c.in_ok-form.ensures.numbered ∙ ap form_number c.in-Eq.is) c.inequation_cases.result c.inequation_cases.ensures

pub returns-in-Truth : goal.returns-in-Truth
returns-in-Truth c = λ t standing.
    truth_negation c.leaves_open.ensures c.args.cells.now.0 (map (λ v. sort_of_desc v.1) c.args.vars.now) t c.args.p c.in_ok-cell.cell standing (sym c.in_ok-cell.ensures) (c.in_ok-form.ensures.numbered ∙ ap form_number c.in-Truth.is) (not c.says_true.result) (ap not c.says_true.ensures)

pub returns-in_err-form : goal.returns-in_err-form
returns-in_err-form c = λ t standing.
    absurd (formless c.standing_opens.ensures c.args.cells.now.0 (map (λ v. sort_of_desc v.1) c.args.vars.now) t c.args.p c.in_ok-cell.cell standing (sym c.in_ok-cell.ensures) (λ g e. let none = c.in_err-form.ensures.each g e in cc))

pub returns-in_default : goal.returns-in_default
returns-in_default c = λ t standing.
    no_negation c.standing_opens.ensures c.args.cells.now.0 (map (λ v. sort_of_desc v.1) c.args.vars.now) t c.args.p c.in_ok-cell.cell standing (sym c.in_ok-cell.ensures) c.in_ok-form.form c.in_ok-form.ensures.each c.in_default.not-Truth c.in_default.not-Eq c.in_default.not-Less c.in_default.not-LessEq c.in_default.not-Not c.in_default.not-And c.in_default.not-Or c.in_default.not-Implies
