use Rattle.std.proofs.Common.{sym, ◌∙◌, map}
use Rattle.math_terms.specs.Kinds.{sort_of_desc}
use Rattle.cert_check.proofs.Splits.{equal_truths, no_truths}
use Rattle.cert_check.proofs.cases.equation_cases.Goals as goal

pub returns-then-not-are_truths : goal.returns-then-not-are_truths
returns-then-not-are_truths c = λ t u left right. no_truths c.args.cells.now.0 (map (λ v. sort_of_desc v.1) c.args.vars.now) c.args.a c.args.b t u left right (sym (c.are_truths.ensures t u left right) ∙ c.if-not-are_truths.true)

pub returns : goal.returns
returns c = λ t u left right. equal_truths c.args.cells.now.0 (map (λ v. sort_of_desc v.1) c.args.vars.now) c.args.a c.args.b t u left right (sym (c.are_truths.ensures t u left right) ∙ c.if-not-are_truths.false)
