use Rattle.std.proofs.Common.{◌≡◌, ◌∙◌, sym, ap, drop, Some, None, ℕ, List}
use Rattle.cert_check.specs.working.Path.{named}
use Rattle.cert_check.proofs.Naming.{goal_named, none_named, hypothesis_named}
use Rattle.cert_check.proofs.path.Path.cases_at.Goals as goal

pub returns-then-k-eq0 : goal.returns-then-k-eq0
returns-then-k-eq0 c = λ s same standing. goal_named c.args.self.now.cells.0 c.args.vars.now s same (drop c.args.start c.args.self.now.places.0) c.args.goal standing c.goal_cases.result c.args.k c.if-k-eq0.true c.goal_cases.ensures

pub returns-in_err-p : goal.returns-in_err-p
returns-in_err-p c = λ s same standing.
    let gone : named (drop c.args.start c.args.self.now.places.0) c.args.k ≡ None = ap (λ (ps : List ℕ). named ps c.args.k) (sym c.from.ensures) ∙ sym c.in_err-p.ensures in
    none_named c.args.self.now.cells.0 c.args.vars.now s same (drop c.args.start c.args.self.now.places.0) c.args.goal standing c.from_residual.result c.args.k c.if-k-eq0.false gone c.from_residual.ensures

pub returns : goal.returns
returns c = λ s same standing.
    let here : named (drop c.args.start c.args.self.now.places.0) c.args.k ≡ Some c.in_ok-p.p = ap (λ (ps : List ℕ). named ps c.args.k) (sym c.from.ensures) ∙ sym c.in_ok-p.ensures in
    hypothesis_named c.args.self.now.cells.0 c.args.vars.now s same (drop c.args.start c.args.self.now.places.0) c.args.goal standing c.hypothesis_cases.result c.args.k c.in_ok-p.p here c.hypothesis_cases.ensures
