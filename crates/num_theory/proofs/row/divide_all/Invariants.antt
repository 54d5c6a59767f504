use Rattle.std.proofs.Common.{◌≡◌, take, drop, ◌++◌, map, pos}
use Rattle.std.specs.Int.{int_div_euclid}
use Rattle.num_theory.proofs.row.divide_all.Given as goal

abbrev pub invariant-loop-number : goal.invariant-loop-number
invariant-loop-number l =
    l.row ≡ map (λ z. int_div_euclid z (pos l.by)) (take l.number-index l.initial.row) ++ drop l.number-index l.initial.row
