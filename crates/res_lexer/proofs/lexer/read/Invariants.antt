use Rattle.std.proofs.Common.{length, ◌-◌}
use Rattle.res_lexer.proofs.Readings.{HasRead}
use Rattle.res_lexer.proofs.lexer.read.Given as goal

abbrev pub invariant-loop-at : goal.invariant-loop-at
invariant-loop-at l = HasRead l.bytes l.tokens.items l.at

abbrev pub decreases-loop-at : goal.decreases-loop-at
decreases-loop-at l = length l.bytes - l.at
