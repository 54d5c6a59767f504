use Rattle.std.proofs.Common.{ap, refl, List, ℕ, Some}
use Rattle.vc_sequents.specs.Splitting.{with_goal_case}
use Rattle.cert_check.specs.declared.path.Path.{Path}
use Rattle.cert_check.specs.Need.{sequent_nodes}
use Rattle.cert_check.proofs.Filling.{again_lacks, again_short, goal_taken, takes_again, takes_none}
use Rattle.cert_check.proofs.Opening.{goal_opened}
use Rattle.cert_check.proofs.path.Path.open_goal.Goals as goal

pub returns-clause-standing : goal.returns-clause-standing
returns-clause-standing c = λ s g goal standing parts.
    let old = c.args.self.now in
    let new = c.push_goal_case.new.self in
    let made = c.push_goal_case.ensures in
    goal_opened c.standing_lasts.ensures old.cells new.cells _ made.cells old.places.0 c.repeat.new.self.0 new.places.0 c.args.start c.held-end.result c.held-end.ensures.count
    (ap (λ (p : List ℕ × ℕ). p.0) c.in_ok-repeat.ensures) s goal standing g c.push_goal_case.result (made.standing g parts)

pub returns-in_err-repeat-clause-takes : goal.returns-in_err-repeat-clause-takes
returns-in_err-repeat-clause-takes c = λ s g within all parts.
    let old = c.args.self.now in
    let mid : Path = record old { places = c.repeat.new.self } in
    takes_none old mid (sequent_nodes (with_goal_case s g)) c.from_residual.result c.from_residual.ensures
    (again_short old c.args.start c.held-end.result c.held-end.ensures.count s all g (again_lacks old c.args.start c.held-end.result c.held-end.ensures.count s all c.in_err-repeat.ensures.0))

pub returns-clause-takes : goal.returns-clause-takes
returns-clause-takes c = λ s g within all parts.
    let old = c.args.self.now in
    let mid : Path = record old { places = c.repeat.new.self } in
    let unit : Unit {0} = tt in
    goal_taken old c.args.start c.held-end.result c.held-end.ensures.count s all mid c.push_goal_case.new.self g unit c.push_goal_case.result refl
    (takes_again old c.args.start c.held-end.result c.held-end.ensures.count s all mid (Some unit) refl refl c.in_ok-repeat.ensures) (c.push_goal_case.ensures.takes g parts)
