use Rattle.std.proofs.Common.{sym, ◌∙◌, map}
use Rattle.math_terms.specs.Kinds.{sort_of_desc}
use Rattle.cert_check.proofs.Splits.{equal_number_goals, equal_truth_goals, equal_other_goals}
use Rattle.cert_check.proofs.cases.equal_goals.Goals as goal

pub returns-then-are_numbers : goal.returns-then-are_numbers
returns-then-are_numbers c = λ t u left right. equal_number_goals c.args.cells.now.0 (map (λ v. sort_of_desc v.1) c.args.vars.now) c.args.a c.args.b t u left right (sym (c.are_numbers.ensures t u left right) ∙ c.if-are_numbers.true)

pub returns-then-are_truths : goal.returns-then-are_truths
returns-then-are_truths c = λ t u left right. equal_truth_goals c.args.cells.now.0 (map (λ v. sort_of_desc v.1) c.args.vars.now) c.args.a c.args.b t u left right (sym (c.are_numbers.ensures t u left right) ∙ c.if-are_numbers.false) (sym (c.are_truths.ensures t u left right) ∙ c.if-are_truths.true)

pub returns : goal.returns
returns c = λ t u left right. equal_other_goals c.args.cells.now.0 (map (λ v. sort_of_desc v.1) c.args.vars.now) c.args.a c.args.b t u left right (sym (c.are_numbers.ensures t u left right) ∙ c.if-are_numbers.false) (sym (c.are_truths.ensures t u left right) ∙ c.if-are_truths.false)
