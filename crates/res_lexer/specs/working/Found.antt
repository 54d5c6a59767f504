-- What the functions inside the crate answer, by the piece that stands at a place.
use Rattle.std.specs.Prelude.{◌≡◌, ℕ, Result, Ok, Err}
use Rattle.res_lexer.specs.declared.pieces.Piece.{Piece}
use Rattle.res_lexer.specs.declared.pieces.Piece.TheVariants as found
use Rattle.res_lexer.specs.declared.token.Token.{Token}
use Rattle.res_lexer.specs.declared.token.LexError.{LexError}
use Rattle.res_lexer.specs.declared.token.LexError.TheVariants.{BadByte, OpenComment, LongName, BigLiteral, NoMemory}
use Rattle.res_lexer.specs.Pieces as spec

abbrev pub IsToken : ℕ → Token → spec.Piece → Type 0
IsToken place t piece = (t.at ≡ place) × (piece ≡ spec.Stands t.len t.kind)

abbrev pub IsPiece : ℕ → Piece → spec.Piece → Type 0
IsPiece place (found.Gap n) piece = piece ≡ spec.Gap n
IsPiece place (found.Token t) piece = IsToken place t piece

-- want of memory alone is free
abbrev pub IsBreach : LexError → spec.Piece → Type 0
IsBreach (BadByte at) piece = piece ≡ spec.Breach (BadByte at)
IsBreach (OpenComment at) piece = piece ≡ spec.Breach (OpenComment at)
IsBreach (LongName at) piece = piece ≡ spec.Breach (LongName at)
IsBreach (BigLiteral at) piece = piece ≡ spec.Breach (BigLiteral at)
IsBreach NoMemory piece = Unit {0}

abbrev pub Answers : ℕ → Result Piece LexError → spec.Piece → Type 0
Answers place (Ok found) piece = IsPiece place found piece
Answers place (Err e) piece = IsBreach e piece
