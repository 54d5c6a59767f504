use Rattle.std.proofs.Common.{◌≡◌, ◌∙◌, ap, refl, ℕ, List, take, Some, arith}
use Rattle.std.specs.List.{sum_by}
use Rattle.std.proofs.lemmas.List.{take_all}
use Rattle.math_terms.specs.declared.term.Term.{Term}
use Rattle.math_terms.specs.Terms.{nodes}
use Rattle.cert_check.specs.declared.path.Path.{Path}
use Rattle.cert_check.proofs.Counts.{some_node}
use Rattle.cert_check.proofs.Filling.{lacks_load, lacks_places, loaded_more, loaded_short, takes_as, takes_load_push, takes_none}
use Rattle.cert_check.proofs.Opening.{loaded_next}
use Rattle.cert_check.proofs.path.Path.load_all.Goals as goal

pub loop-f-preserved : goal.loop-f-preserved
loop-f-preserved c =
    let inv = c.loop-f.invariant in
    let unit : Unit {0} = tt in
    let put = c.in_ok-push.ensures in
    let new : Path = record { cells = c.load.new.self; places = c.push.new.self; sheet = c.loop-f.self.sheet } in (
      loaded_next c.standing_lasts.ensures c.loop-f.self.cells c.load.new.self _ c.load.ensures.grown c.args.self.now.places.0 c.loop-f.self.places.0 c.push.new.self.0 c.args.fs.now c.loop-f.f-index c.in_ok-p.p c.f-item.result (omega arith) c.f-item.is
          inv.0 c.in_ok-p.ensures.standing (ap (λ (p : List ℕ × ℕ). p.0) put),
      c.load.ensures.grown.room ∙ inv.1,
      ap (λ (p : List ℕ × ℕ). p.1) put ∙ inv.2,
      inv.3,
      loaded_more c.args.self.now c.loop-f.self c.args.fs.now c.loop-f.f-index c.f-item.result unit (omega arith) c.f-item.is inv.3 inv.4 new unit
          (takes_load_push c.loop-f.self c.f-item.result new c.in_ok-p.p (Some unit) c.load.ensures.grown refl put),
    )

pub returns-in_err-p-clause-takes : goal.returns-in_err-p-clause-takes
returns-in_err-p-clause-takes c =
    let old = c.args.self.now in
    let mid = c.loop-f.self in
    let new : Path = record { cells = c.load.new.self; places = c.loop-f.self.places; sheet = c.loop-f.self.sheet } in
    let inv = c.loop-f.invariant in
    let unit : Unit {0} = tt in
    takes_none old new (sum_by nodes c.args.fs.now) c.from_residual.result c.from_residual.ensures
    (loaded_short old mid c.args.fs.now c.loop-f.f-index c.f-item.result unit (omega arith) c.f-item.is inv.3 inv.4 (lacks_load mid c.f-item.result c.in_err-p.ensures.short))

pub returns-in_err-push-clause-takes : goal.returns-in_err-push-clause-takes
returns-in_err-push-clause-takes c =
    let old = c.args.self.now in
    let mid = c.loop-f.self in
    let new : Path = record { cells = c.load.new.self; places = c.push.new.self; sheet = c.loop-f.self.sheet } in
    let inv = c.loop-f.invariant in
    let unit : Unit {0} = tt in
    takes_none old new (sum_by nodes c.args.fs.now) c.from_residual-in_err-push.result c.from_residual-in_err-push.ensures
    (loaded_short old mid c.args.fs.now c.loop-f.f-index c.f-item.result unit (omega arith) c.f-item.is inv.3 inv.4
    (lacks_places mid 1 (nodes c.f-item.result) c.in_err-push.ensures.0 (some_node c.f-item.result)))

pub returns-clause-takes : goal.returns-clause-takes
returns-clause-takes c =
    let fs = c.args.fs.now in
    let unit : Unit {0} = tt in
    let all : sum_by nodes (take c.loop-f.f-index fs) ≡ sum_by nodes fs = ap (λ (ts : List Term). sum_by nodes ts) (take_all c.loop-f.f-index fs (omega arith)) in
    takes_as c.args.self.now c.loop-f.self (sum_by nodes (take c.loop-f.f-index fs)) (sum_by nodes fs) (Some unit) all c.loop-f.invariant.4
