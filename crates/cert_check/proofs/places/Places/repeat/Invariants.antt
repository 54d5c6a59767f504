use Rattle.std.proofs.Common.{◌≡◌, ◌++◌, ◌-◌, take, drop}
use Rattle.cert_check.proofs.places.Places.repeat.Given as goal

-- the places of the numbers up to i are there once more
abbrev pub invariant-loop-i : goal.invariant-loop-i
invariant-loop-i l =
    l.self ≡ (l.initial.self.0 ++ take (l.i - l.from) (drop l.from l.initial.self.0), l.initial.self.1)
