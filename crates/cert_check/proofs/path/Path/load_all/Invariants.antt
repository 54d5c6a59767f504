use Rattle.std.proofs.Common.{◌≡◌, take, Some}
use Rattle.std.specs.List.{sum_by}
use Rattle.math_terms.specs.Terms.{nodes}
use Rattle.cert_check.specs.working.Path.{Adds}
use Rattle.cert_check.specs.working.Room.{Takes}
use Rattle.cert_check.proofs.path.Path.load_all.Given as goal

-- the formulas so far stand, and what they take is held
abbrev pub invariant-loop-f : goal.invariant-loop-f
invariant-loop-f l =
    Adds l.initial.self.places.0 l.self.places.0 l.self.cells.0 (take l.f-index l.fs) × (l.self.cells.1 ≡ l.initial.self.cells.1) × (l.self.places.1 ≡ l.initial.self.places.1) × (l.self.sheet ≡ l.initial.self.sheet) × Takes {A = Unit {0}} l.initial.self l.self (sum_by nodes (take l.f-index l.fs)) (Some tt)
