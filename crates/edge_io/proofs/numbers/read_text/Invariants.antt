use Rattle.std.proofs.Common.{◌-◌, ◌≤◌, vec_len}
use Rattle.edge_io.proofs.ReadText.{Came}
use Rattle.edge_io.proofs.numbers.read_text.Given as goal

-- the text came from the source and has at most one byte that it may not have, and the source's count has not fallen
abbrev pub invariant-loop-chunk : goal.invariant-loop-chunk
invariant-loop-chunk g l = record {
  came : Came (g.S.Source.left l.initial.source) (g.S.Source.left l.source) l.text.items;
  within : vec_len l.text ≤ 1048577;
  risen : g.S.Source.faults l.initial.source ≤ g.S.Source.faults l.source;
}

-- how many bytes may come yet
abbrev pub decreases-loop-chunk : goal.decreases-loop-chunk
decreases-loop-chunk g l = 1048577 - vec_len l.text
