use Rattle.std.proofs.Common.{◌≤◌, length}
use Rattle.edge_io.proofs.Growth.{Written}
use Rattle.edge_io.proofs.sink.write_all.Given as goal

-- the sink has grown by what stands before the rest, and its count has not fallen
abbrev pub invariant-loop-rest : goal.invariant-loop-rest
invariant-loop-rest g l = record {
  written : Written (g.K.Sink.held l.initial.sink) (g.K.Sink.held l.sink) l.rest l.bytes;
  risen : g.K.Sink.faults l.initial.sink ≤ g.K.Sink.faults l.sink;
}

abbrev pub decreases-loop-rest : goal.decreases-loop-rest
decreases-loop-rest g l = length l.rest
