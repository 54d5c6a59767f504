use Rattle.std.proofs.Common.{◌≡◌, map, take}
use Rattle.linear_prover.specs.working.Eliminating.{flagged, line_by}
use Rattle.linear_prover.proofs.multipliers.lines_by.Given as goal

abbrev pub invariant-loop-at : goal.invariant-loop-at
invariant-loop-at l = l.lines ≡ map (λ d. line_by l.n l.places d.1) (flagged l.n (take l.at l.flags) (take l.at l.made))
