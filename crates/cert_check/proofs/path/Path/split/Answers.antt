use Rattle.std.proofs.Common.{◌∙◌, sym, subst, None, Option}
use Rattle.cert_check.specs.declared.cases.Cases.{Cases}
use Rattle.cert_check.specs.working.Children.{SplitIs}
use Rattle.cert_check.proofs.Giving.{split_allowed, split_large, split_none, split_others}
use Rattle.cert_check.proofs.path.Path.split.Goals as goal

pub returns-in_err-cases : goal.returns-in_err-cases
returns-in_err-cases c = λ s same standing.
    let refused : SplitIs c.args.self.now.cells.0 c.args.k c.args.n s None = split_none s c.args.n c.args.self.now.cells.0 c.args.k (c.in_err-cases.ensures s same standing) in
    subst (λ (r : Option Cases). SplitIs c.args.self.now.cells.0 c.args.k c.args.n s r) (sym c.from_residual.ensures) refused

pub returns-then-count-n : goal.returns-then-count-n
returns-then-count-n c = λ s same standing.
    split_others s c.args.n c.args.self.now.cells.0 c.args.k c.in_ok-cases.cases (c.in_ok-cases.ensures s same standing) (λ e. c.if-count-n.true (c.count.ensures ∙ e))

pub returns-then-not-are_small : goal.returns-then-not-are_small
returns-then-not-are_small c = λ s same standing.
    split_large s c.args.n c.args.self.now.cells.0 c.are_small.result c.args.k c.in_ok-cases.cases c.are_small.ensures.hypothesis c.are_small.ensures.goal (c.in_ok-cases.ensures s same standing) c.if-not-are_small.true

pub returns : goal.returns
returns c = λ s same standing.
    split_allowed s c.args.n c.args.self.now.cells.0 c.are_small.result c.args.k c.in_ok-cases.cases c.are_small.ensures.hypothesis c.are_small.ensures.goal (c.in_ok-cases.ensures s same standing)
    c.if-not-are_small.false (sym c.count.ensures ∙ c.if-count-n.false)
