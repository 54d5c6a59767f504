use Rattle.std.proofs.Common.{◌+◌, refl, subst, arith}
use Rattle.std.specs.List.{sum_by}
use Rattle.math_terms.specs.Terms.{nodes}
use Rattle.cert_check.specs.declared.cases.Case.{Case}
use Rattle.cert_check.specs.working.Cases.{GoalIs}
use Rattle.cert_check.specs.declared.path.Path.{Path}
use Rattle.cert_check.proofs.Counts.{goal_total, only_total}
use Rattle.cert_check.proofs.Filling.{lacks_less, takes_as, takes_cells, takes_none, takes_then}
use Rattle.cert_check.proofs.Opening.{grown_part, goal_added}
use Rattle.cert_check.proofs.path.Path.push_goal_case.Goals as goal

pub returns-in_ok-push_part-in-Both-clause-standing :
    goal.returns-in_ok-push_part-in-Both-clause-standing
returns-in_ok-push_part-in-Both-clause-standing c = λ g parts.
    let old = c.args.self.now in
    let mid = c.push_part.new.self in
    let d = subst (λ (x : Case). GoalIs old.cells.0 x g) c.in-Both.is parts in
    let first = c.in_ok-push_part-in-Both.ensures in
    let second = c.make-in-Both.ensures in
    goal_added c.standing_lasts.ensures mid.cells c.make-in-Both.new.cells _ second.grown old.places.0 mid.places.0 d.0 d.1 g (first.standing d.0 d.2) d.4 c.make-in-Both.result
    (second.standing d.1 (grown_part c.standing_lasts.ensures old.cells mid.cells _ first.cells c.in-Both.y d.1 d.3))

pub returns-in-Only-clause-takes : goal.returns-in-Only-clause-takes
returns-in-Only-clause-takes c = λ g parts.
    let old = c.args.self.now in
    let new : Path = record old { cells = c.make.new.cells } in
    let d = subst (λ (x : Case). GoalIs old.cells.0 x g) c.in-Only.is parts in
    let made = c.make.ensures in
    takes_as old new (nodes d.0) (sum_by nodes g.0 + nodes g.1) c.make.result (only_total d.0 g d.2)
    (takes_cells old c.in-Only.x d.0 d.1 new c.make.result made.grown made.short refl refl)

pub returns-in_err-push_part-in-Both-clause-takes :
    goal.returns-in_err-push_part-in-Both-clause-takes
returns-in_err-push_part-in-Both-clause-takes c = λ g parts.
    let old = c.args.self.now in
    let mid = c.push_part.new.self in
    let d = subst (λ (x : Case). GoalIs old.cells.0 x g) c.in-Both.is parts in
    takes_none old mid (sum_by nodes g.0 + nodes g.1) c.from_residual.result c.from_residual.ensures
    (lacks_less old (nodes d.0) (sum_by nodes g.0 + nodes g.1) (omega (arith, goal_total d.0 d.1 g d.4)) (c.in_err-push_part-in-Both.ensures.takes d.0 d.2))

pub returns-in_ok-push_part-in-Both-clause-takes : goal.returns-in_ok-push_part-in-Both-clause-takes
returns-in_ok-push_part-in-Both-clause-takes c = λ g parts.
    let old = c.args.self.now in
    let mid = c.push_part.new.self in
    let last : Path = record mid { cells = c.make-in-Both.new.cells } in
    let d = subst (λ (x : Case). GoalIs old.cells.0 x g) c.in-Both.is parts in
    let first = c.in_ok-push_part-in-Both.ensures in
    let second = c.make-in-Both.ensures in
    let next = grown_part c.standing_lasts.ensures old.cells mid.cells _ first.cells c.in-Both.y d.1 d.3 in
    takes_as old last (nodes d.0 + nodes d.1) (sum_by nodes g.0 + nodes g.1) c.make-in-Both.result (goal_total d.0 d.1 g d.4)
    (takes_then old mid last (nodes d.0) (nodes d.1) c.in_ok-push_part-in-Both.field-0 c.make-in-Both.result first.sheet (first.takes d.0 d.2)
    (takes_cells mid c.in-Both.y d.1 next last c.make-in-Both.result second.grown second.short refl refl))
