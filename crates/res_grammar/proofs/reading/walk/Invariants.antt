use Rattle.std.proofs.Common.{take, ◌≤◌, length}
use Rattle.res_grammar.proofs.Walks.{Stood}
use Rattle.res_grammar.proofs.reading.walk.Given as goal

abbrev pub invariant-loop-step : goal.invariant-loop-step
invariant-loop-step l = (l.place ≤ length l.tokens) × Stood (take l.step-index l.moves) (take l.place l.tokens) l.watches
