use Rattle.std.proofs.Common.{◌-◌, refl}
use Rattle.cert_check.specs.Need.{sequent_nodes}
use Rattle.cert_check.proofs.Filling.{goal_child, hypothesis_child, hypothesis_lacks, takes_none}
use Rattle.cert_check.proofs.path.Path.open.Goals as goal

pub returns-then-k-eq0-clause-takes : goal.returns-then-k-eq0-clause-takes
returns-then-k-eq0-clause-takes c = λ s child within standing is.
    let old = c.args.self.now in
    goal_child old c.open_goal.new.self old.cells.0 s c.args.case child c.args.k c.if-k-eq0.true is c.open_goal.result (λ g parts. c.open_goal.ensures.takes s g within standing.hyps_stand parts)

pub returns-in_err-open_hypothesis-clause-takes : goal.returns-in_err-open_hypothesis-clause-takes
returns-in_err-open_hypothesis-clause-takes c = λ s child within standing is.
    let old = c.args.self.now in
    let new = c.open_hypothesis.new.self in
    takes_none old new (sequent_nodes child) c.from_residual.result c.from_residual.ensures
    (hypothesis_lacks old new old.cells.0 s c.args.case child c.args.k (c.args.k - 1) c.if-k-eq0.false refl is (λ ts few parts. c.in_err-open_hypothesis.ensures.takes s.hyps ts standing.hyps_stand few parts))

pub returns-clause-takes : goal.returns-clause-takes
returns-clause-takes c = λ s child within standing is.
    let old = c.args.self.now in
    hypothesis_child old c.open_hypothesis.new.self old.cells.0 s c.args.case child c.in_ok-open_hypothesis.field-0 c.args.goal c.args.k (c.args.k - 1) c.if-k-eq0.false refl is
    (λ ts few parts. c.in_ok-open_hypothesis.ensures.takes s.hyps ts standing.hyps_stand few parts)
