use Rattle.std.proofs.Common.{◌≡◌, take, drop, ◌++◌, map}
use Rattle.cell_rows.specs.Forms.{scaled_mark}
use Rattle.cell_rows.proofs.forms.scale.Given as goal

abbrev pub invariant-loop-m : goal.invariant-loop-m
invariant-loop-m l = l.marks ≡ map (scaled_mark l.by) (take l.m-index l.initial.marks) ++ drop l.m-index l.initial.marks
