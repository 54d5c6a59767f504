use Rattle.std.proofs.Common.{◌≡◌, ◌+◌, drop, option_map}
use Rattle.res_lexer.specs.Pieces.{before_closing}
use Rattle.res_lexer.proofs.pieces.before_closing.Given as goal

abbrev pub invariant-loop-start : goal.invariant-loop-start
invariant-loop-start l =
    before_closing l.bytes ≡ option_map (λ k. l.start + k) (before_closing (drop l.start l.bytes))
