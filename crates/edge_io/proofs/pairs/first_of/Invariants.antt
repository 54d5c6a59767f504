use Rattle.std.proofs.Common.{◌≡◌, None, take}
use Rattle.edge_io.specs.Memory.{files_of}
use Rattle.edge_io.proofs.pairs.first_of.Given as goal

-- no file so far has the name
abbrev pub invariant-loop-at : goal.invariant-loop-at
invariant-loop-at l = files_of (take l.at l.files) l.name ≡ None
