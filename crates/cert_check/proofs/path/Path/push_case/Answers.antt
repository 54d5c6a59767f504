use Rattle.std.proofs.Common.{◌+◌, subst, arith}
use Rattle.std.specs.List.{sum_by}
use Rattle.math_terms.specs.Terms.{nodes}
use Rattle.cert_check.specs.declared.cases.Case.{Case}
use Rattle.cert_check.specs.working.Cases.{FormulasAre}
use Rattle.cert_check.proofs.Counts.{one_total, two_total}
use Rattle.cert_check.proofs.Filling.{lacks_less, takes_as, takes_none, takes_then}
use Rattle.cert_check.proofs.Opening.{grown_part, second_added}
use Rattle.cert_check.proofs.path.Path.push_case.Goals as goal

pub returns-in_ok-push_part-in-Both-clause-standing :
    goal.returns-in_ok-push_part-in-Both-clause-standing
returns-in_ok-push_part-in-Both-clause-standing c = λ ts parts.
    let old = c.args.self.now in
    let mid = c.push_part-in-Both.new.self in
    let last = c.push_part-in-Both-2.new.self in
    let d = subst (λ (x : Case). FormulasAre old.cells.0 x ts) c.in-Both.is parts in
    let first = c.in_ok-push_part-in-Both.ensures in
    let second = c.push_part-in-Both-2.ensures in
    second_added c.standing_lasts.ensures mid.cells last.cells _ second.cells old.places.0 mid.places.0 last.places.0 d.0 d.1 ts (first.standing d.0 d.2) d.4 c.push_part-in-Both-2.result
    (second.standing d.1 (grown_part c.standing_lasts.ensures old.cells mid.cells _ first.cells c.in-Both.y d.1 d.3))

pub returns-in-Only-clause-takes : goal.returns-in-Only-clause-takes
returns-in-Only-clause-takes c = λ ts parts.
    let old = c.args.self.now in
    let new = c.push_part.new.self in
    let d = subst (λ (x : Case). FormulasAre old.cells.0 x ts) c.in-Only.is parts in
    takes_as old new (nodes d.0) (sum_by nodes ts) c.push_part.result (one_total d.0 ts d.2) (c.push_part.ensures.takes d.0 d.1)

pub returns-in_err-push_part-in-Both-clause-takes :
    goal.returns-in_err-push_part-in-Both-clause-takes
returns-in_err-push_part-in-Both-clause-takes c = λ ts parts.
    let old = c.args.self.now in
    let mid = c.push_part-in-Both.new.self in
    let d = subst (λ (x : Case). FormulasAre old.cells.0 x ts) c.in-Both.is parts in
    takes_none old mid (sum_by nodes ts) c.from_residual.result c.from_residual.ensures
    (lacks_less old (nodes d.0) (sum_by nodes ts) (omega (arith, two_total d.0 d.1 ts d.4)) (c.in_err-push_part-in-Both.ensures.takes d.0 d.2))

pub returns-in_ok-push_part-in-Both-clause-takes : goal.returns-in_ok-push_part-in-Both-clause-takes
returns-in_ok-push_part-in-Both-clause-takes c = λ ts parts.
    let old = c.args.self.now in
    let mid = c.push_part-in-Both.new.self in
    let last = c.push_part-in-Both-2.new.self in
    let d = subst (λ (x : Case). FormulasAre old.cells.0 x ts) c.in-Both.is parts in
    let first = c.in_ok-push_part-in-Both.ensures in
    let second = c.push_part-in-Both-2.ensures in
    let next = grown_part c.standing_lasts.ensures old.cells mid.cells _ first.cells c.in-Both.y d.1 d.3 in
    takes_as old last (nodes d.0 + nodes d.1) (sum_by nodes ts) c.push_part-in-Both-2.result (two_total d.0 d.1 ts d.4)
    (takes_then old mid last (nodes d.0) (nodes d.1) c.in_ok-push_part-in-Both.field-0 c.push_part-in-Both-2.result first.sheet (first.takes d.0 d.2) (second.takes d.1 next))
