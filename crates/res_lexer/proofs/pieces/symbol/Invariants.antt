use Rattle.std.proofs.Common.{◌≡◌, ◌-◌, drop}
use Rattle.res_lexer.specs.Pieces.{symbol_among, symbol_at, symbols}
use Rattle.res_lexer.proofs.pieces.symbol.Given as goal

abbrev pub invariant-loop-number : goal.invariant-loop-number
invariant-loop-number l =
    symbol_at l.at l.rest ≡ symbol_among l.number (drop (l.number - 1) symbols) l.at l.rest
