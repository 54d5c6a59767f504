use Rattle.std.proofs.Common.{◌≡◌, ◌+◌, take, drop}
use Rattle.cell_rows.proofs.forms.move_down.Given as goal

abbrev pub invariant-loop-k : goal.invariant-loop-k
invariant-loop-k l = (take l.k l.marks ≡ take l.k (drop l.count l.initial.marks)) × (drop (l.count + l.k) l.marks ≡ drop (l.count + l.k) l.initial.marks)
