use Rattle.std.proofs.Common.{arith}
use Rattle.edge_io.proofs.ReadText.{came_many}
use Rattle.edge_io.proofs.numbers.read_text.Goals as goal

pub returns-clause-text : goal.returns-clause-text
returns-clause-text g c = came_many _ _ _ c.loop-chunk.invariant.came (omega arith)
