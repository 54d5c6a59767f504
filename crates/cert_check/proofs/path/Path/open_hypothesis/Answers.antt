use Rattle.std.proofs.Common.{◌≡◌, ◌<◌, ap, refl, List, ℕ, length, ◌-◌, ◌+◌, take, drop, length-append, Some, arith}
use Rattle.std.specs.List.{sum_by}
use Rattle.math_terms.specs.Terms.{nodes}
use Rattle.vc_sequents.specs.Splitting.{in_place}
use Rattle.cert_check.specs.declared.path.Path.{Path}
use Rattle.cert_check.proofs.Filling.{case_short, front_short, hypothesis_taken, front_lacks, takes_front, takes_none, within_held}
use Rattle.cert_check.proofs.Opening.{hypothesis_opened, puts_places}
use Rattle.cert_check.proofs.path.Path.open_hypothesis.Goals as goal

pub repeat-requires-2-clause-within : goal.repeat-requires-2-clause-within
repeat-requires-2-clause-within c =
    let mid = ap (λ (p : List ℕ × ℕ). p.0) c.in_ok-repeat.ensures in
    omega (arith, c.push_case.ensures.longer, ap length mid, length-append {A = ℕ}, c.held-end.ensures.count)

pub returns-clause-standing : goal.returns-clause-standing
returns-clause-standing c = λ hs ts all parts.
    let old = c.args.self.now in
    let new = c.push_case.new.self in
    let made = c.push_case.ensures in
    let at = c.in_ok-at.at in
    let held = c.held-end.result in
    hypothesis_opened c.standing_lasts.ensures old.cells new.cells _ made.cells old.places.0 c.repeat.new.self.0 new.places.0 c.repeat-2.new.self.0 c.args.start c.args.k at held
    (omega (arith, c.in_ok-at.ensures)) (omega arith) c.held-end.ensures.count
    (ap (λ (p : List ℕ × ℕ). p.0) c.in_ok-repeat.ensures) hs ts all (c.in_ok-push_case.ensures.standing ts parts) c.repeat-2.result
    (puts_places new.places c.repeat-2.new.self (take (held - (at + 1)) (drop (at + 1) new.places.0)) c.repeat-2.result c.repeat-2.ensures)

pub returns-in_err-at-clause-takes : goal.returns-in_err-at-clause-takes
returns-in_err-at-clause-takes c = λ hs ts all few parts.
    let old = c.args.self.now in
    let within : c.args.start + c.args.k < c.held-end.result = within_held old c.args.start c.args.k (c.args.start + c.args.k) c.held-end.result refl c.held-end.ensures.count hs all few in
    absurd (omega (arith, c.in_err-at.ensures))

pub returns-then-at-end-clause-takes : goal.returns-then-at-end-clause-takes
returns-then-at-end-clause-takes c = λ hs ts all few parts.
    let old = c.args.self.now in
    let sum : c.in_ok-at.at ≡ c.args.start + c.args.k = omega (arith, c.in_ok-at.ensures) in
    let within : c.in_ok-at.at < c.held-end.result = within_held old c.args.start c.args.k c.in_ok-at.at c.held-end.result sum c.held-end.ensures.count hs all few in
    absurd (omega arith)

pub returns-in_err-repeat-clause-takes : goal.returns-in_err-repeat-clause-takes
returns-in_err-repeat-clause-takes c = λ hs ts all few parts.
    let old = c.args.self.now in
    let at = c.in_ok-at.at in
    let mid : Path = record old { places = c.repeat.new.self } in
    let sum : at ≡ c.args.start + c.args.k = omega (arith, c.in_ok-at.ensures) in
    takes_none old mid (sum_by nodes (in_place c.args.k ts hs)) c.from_residual-in_err-repeat.result c.from_residual-in_err-repeat.ensures
    (front_short old c.args.start c.args.k at c.held-end.result sum c.held-end.ensures.count hs all few ts
    (front_lacks old c.args.start c.args.k at c.held-end.result sum c.held-end.ensures.count hs all few c.in_err-repeat.ensures.0))

pub returns-in_err-push_case-clause-takes : goal.returns-in_err-push_case-clause-takes
returns-in_err-push_case-clause-takes c = λ hs ts all few parts.
    let old = c.args.self.now in
    let at = c.in_ok-at.at in
    let mid : Path = record old { places = c.repeat.new.self } in
    let here = c.push_case.new.self in
    let sum : at ≡ c.args.start + c.args.k = omega (arith, c.in_ok-at.ensures) in
    let unit : Unit {0} = tt in
    takes_none old here (sum_by nodes (in_place c.args.k ts hs)) c.from_residual-in_err-push_case.result c.from_residual-in_err-push_case.ensures
    (case_short old c.args.start c.args.k at c.held-end.result sum c.held-end.ensures.count hs all few ts mid unit refl
    (takes_front old c.args.start c.args.k at c.held-end.result sum c.held-end.ensures.count hs all few mid (Some unit) refl refl c.in_ok-repeat.ensures)
    (c.in_err-push_case.ensures.takes ts parts))

pub returns-clause-takes : goal.returns-clause-takes
returns-clause-takes c = λ hs ts all few parts.
    let old = c.args.self.now in
    let at = c.in_ok-at.at in
    let mid : Path = record old { places = c.repeat.new.self } in
    let here = c.push_case.new.self in
    let last : Path = record here { places = c.repeat-2.new.self } in
    let sum : at ≡ c.args.start + c.args.k = omega (arith, c.in_ok-at.ensures) in
    let unit : Unit {0} = tt in
    hypothesis_taken old c.args.start c.args.k at c.held-end.result sum c.held-end.ensures.count hs all few ts mid unit refl
    (takes_front old c.args.start c.args.k at c.held-end.result sum c.held-end.ensures.count hs all few mid (Some unit) refl refl c.in_ok-repeat.ensures)
    here last unit c.repeat-2.result c.push_case.ensures.sheet (c.in_ok-push_case.ensures.takes ts parts) refl refl c.repeat-2.ensures
