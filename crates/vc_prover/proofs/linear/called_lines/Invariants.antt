use Rattle.std.proofs.Common.{◌≡◌, map, take}
use Rattle.vc_prover.specs.Search.{called_line}
use Rattle.vc_prover.proofs.linear.called_lines.Given as goal

abbrev pub invariant-loop-l : goal.invariant-loop-l
invariant-loop-l l = l.out ≡ map (called_line l.n l.used) (take l.l-index l.lines)
